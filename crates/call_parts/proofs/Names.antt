-- The names of an area: those of the path, then zeros up to most_names.
use Prim.Native.Nat.{ℕ, zero, suc, ◌+◌, ◌-◌, ◌*◌, ◌≤◌, ◌<◌}
use mathlib.Core.Path.{◌≡◌, refl, sym, ap, ◌∙◌}
use mathlib.Core.List.{List, [], ◌∷◌, ◌++◌}
use native.Mathlib.Omega.{arith}
use lib.ListN.{length, get_or, take, drop, replicate, length-append, length-drop, length-replicate, get_or-replicate, get_or-eq_default, get_or-append}
use lib.Seq.{sets, get_or-append-add, take_at}
use borrow.Rule.Slice.PartMut.{put_mid}
use Rattle.numbers.specs.Limit.{most_names}
use Rattle.numbers.specs.Limit as limit
use Rattle.std.proofs.lemmas.List.{drop-replicate}
use Rattle.signed.proofs.Laws.{ordered}
use Rattle.model.specs.Whole.{filled}
use Rattle.buffers.specs.Bytes.{two, spelled, bytes_of, names_of}
use Rattle.buffers.proofs.BytesLaws.{bytes-length, spelled-append}
use Rattle.call_parts.specs.Area.{area_of, told, place_word, names_at}
use Rattle.buffers.proofs.Loops.{stored-none, stored_more, stored-all, tail-back}

-- zeros change no name
zero-at : (n i : ℕ) → get_or {A = ℕ} (replicate n 0) i 0 ≡ 0
zero-at n i = ordered i n (λ h. get_or-replicate n i 0 0 h) (λ h. get_or-eq_default (replicate n 0) 0 (omega (arith, length-replicate {A = ℕ} n 0)))

pub filled_at : (n : ℕ) (l : List ℕ) (i : ℕ) → get_or l i 0 ≡ get_or (filled n l) i 0
unfolding filled
filled_at n l i = ordered i (length l) (λ h. sym (get_or-append l z 0 i h)) (λ h. go h)
  where
    z : List ℕ
    z = replicate (n - length l) 0

    go : length l ≤ i → get_or l i 0 ≡ get_or (l ++ z) i 0
    go h =
        let e : length l + (i - length l) ≡ i = omega arith in
        get_or-eq_default l 0 h ∙ sym (ap (λ (j : ℕ). get_or (l ++ z) j 0) (sym e) ∙ get_or-append-add l z (i - length l) 0 ∙ zero-at (n - length l) (i - length l))

-- zeros are spelled as zeros
zeros-named : (n : ℕ) → names_of (replicate n 0) ≡ replicate (2 * n) 0
unfolding spelled
zeros-named zero = refl
zeros-named (suc n) = let e : 2 * suc n ≡ suc (suc (2 * n)) = omega arith in rw (e, zeros-named n)

-- names stored over zeros
module _ (names zeros : List ℕ) (small : length names ≤ most_names) (clear : zeros ≡ replicate (2 * most_names) 0) where
  abbrev pub Names : ℕ → List ℕ → Type 0
  Names i s = s ≡ names_of (take i names) ++ drop (2 * i) zeros

  pub names-none : Names 0 zeros
  names-none = stored-none two 2 (λ x. refl) names zeros

  pub names_more : (s s' : List ℕ) (i name : ℕ) → i < length names → name ≡ get_or names i 0 → Names i s → s' ≡ sets s (2 * i) (two name) → Names (i + 1) s'
  names_more s s' i name h e n g =
      let z : length zeros ≡ 2 * most_names = rw clear (length-replicate {A = ℕ} (2 * most_names) 0) in
      stored_more two 2 (λ x. refl) names zeros s s' i (2 * i) (2 * (i + 1)) h (omega arith) (omega arith) (omega arith) n
      (g ∙ ap (λ (x : ℕ). sets s (2 * i) (two x)) e)

  pub names-all : (s : List ℕ) → Names (length names) s → s ≡ names_of (filled most_names names)
  unfolding filled
  names-all s n =
      let e : 2 * most_names - 2 * length names ≡ 2 * (most_names - length names) = omega arith in
      stored-all two 2 (λ x. refl) names zeros s (length names) (2 * length names) (omega arith) n
      ∙ ap (λ (x : List ℕ). names_of names ++ x)
      (rw clear (drop-replicate {X = ℕ} (2 * length names) (2 * most_names) 0 ∙ rw e (sym (zeros-named (most_names - length names)))))
      ∙ sym (spelled-append two names (replicate (most_names - length names) 0))

-- the six words stored, then the names behind them
module _ (place mode events text bits x : ℕ) (names area area' part : List ℕ) (sized : length area ≡ limit.area) (e : x ≡ place_word place)
    (w : area' ≡ bytes_of (x ∷ mode ∷ events ∷ text ∷ bits ∷ length names ∷ []) ++ drop names_at area) (p : part ≡ names_of (filled most_names names)) where
  abbrev head : List ℕ
  head = bytes_of (x ∷ mode ∷ events ∷ text ∷ bits ∷ length names ∷ [])

  pub area-told : put_mid names_at (limit.area - names_at) area' part ≡ area_of (told place mode events text bits names)
  unfolding area_of
  area-told =
      let counted : length head ≡ names_at = bytes-length (x ∷ mode ∷ events ∷ text ∷ bits ∷ length names ∷ []) in
      let n : length area' ≡ limit.area = ap length w ∙ length-append head (drop names_at area) ∙ omega (arith, counted, length-drop names_at area) in
      ap (λ (j : ℕ). put_mid names_at (j - names_at) area' part) (sym n) ∙ tail-back names_at area' part (omega arith) ∙ ap (λ (y : List ℕ). take names_at y ++ part) w
      ∙ ap (λ (y : List ℕ). y ++ part) (take_at head (drop names_at area) names_at counted)
      ∙ ap (λ (y : List ℕ). head ++ y) p
      ∙ ap (λ (y : ℕ). bytes_of (y ∷ mode ∷ events ∷ text ∷ bits ∷ length names ∷ []) ++ names_of (filled most_names names)) e
