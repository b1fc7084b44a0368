-- The stretches lie end to end, so that the list tells of each block once.
use Rattle.std.proofs.Common.{◌≡◌, ℕ, zero, suc, ◌+◌, ◌-◌, ◌*◌, ◌%◌, ◌<◌, ◌≤◌, Bool, true, false, cond, eqb, List, [], ◌∷◌, ◌++◌, length, sym, refl, ap, ◌∙◌, ⊎_elim, arith, eq-eqb, ne_eqb}
use Rattle.shelf.specs.Judge.{blocks, number_at, used_at, end_at}
use Rattle.shelf.specs.Salvage.{Turn, Known, Judged, Stretch, Entry, dropped_in, judge, stretch, onward, stretches_by, stretches, good_entry, bad_entry, good_entries, entries_of}
use Rattle.shelf.specs.Stays.{kept_in}
use Rattle.shelf.specs.Saved.{Each, GoodTo, EndToEnd, LieEndToEnd, told, AccountsIn, AccountsEach}
use Rattle.shelf.proofs.Sides.{less}
use Rattle.shelf.proofs.Stays.{accounts}
use Rattle.shelf.proofs.Keeping.{keeps_on}
use Rattle.shelf.proofs.Laid.{Laid, all_laid}
use Rattle.shelf.proofs.Accepting.{bad-reason}
use Rattle.shelf.proofs.Pieces.{each-so}

-- a stretch has the blocks and the reason that it is made with
record Made (s : Stretch) (first last reason : ℕ) : Type 0 where
  pub first_is : s.first ≡ first
  pub last-is : s.last ≡ last
  pub reason_is : s.reason ≡ reason

made : (f : List ℕ) (first last r : ℕ) (known : Known) → Made (stretch f first last known r) first last r
unfolding stretch
made f first last r Known.lost = record { first_is = refl; last-is = refl; reason_is = refl }
made f first last r (Known.from a b c) = record { first_is = refl; last-is = refl; reason_is = refl }

tiled : (k : ℕ) (f : List ℕ) (i first : ℕ) (turn : Turn) (known : Known) → first ≤ i → i + k ≡ blocks f → GoodTo f first i turn known → EndToEnd f first (stretches_by k f i first turn known)
unfolding stretches_by onward
tiled zero f i first turn known o e w =
    let r : ℕ = cond (eqb (length f % 512) 0) 0 33 in
    let m = made f first i r known in
    EndToEnd.last {s = stretch f first i known r} {turn = turn} {known = known} m.first_is (omega (arith, m.last-is)) (rw m.last-is w) (omega (arith, m.last-is)) m.reason_is
tiled (suc k) f i first turn known o e w =
    by (judge f i turn known) refl (tiled k f (i + 1) (i + 1) Turn.any Known.lost (omega arith) (omega arith) GoodTo.begun)
    (λ now g. tiled k f (i + 1) first (Turn.only (number_at f i + 1)) now (omega arith) (omega arith) (GoodTo.on w g))
  where
    by : (j : Judged) → judge f i turn known ≡ j → EndToEnd f (i + 1) (stretches_by k f (i + 1) (i + 1) Turn.any Known.lost)
        → ((now : Known) → judge f i turn known ≡ Judged.good now → EndToEnd f first (stretches_by k f (i + 1) first (Turn.only (number_at f i + 1)) now)) → EndToEnd f first (onward f first i known j (stretches_by k f (i + 1)))
    by (Judged.bad r) g anew on =
        let m = made f first i r known in
        EndToEnd.bad {s = stretch f first i known r} {turn = turn} {known = known} {ss = stretches_by k f (i + 1) (i + 1) Turn.any Known.lost} m.first_is (omega (arith, m.last-is)) (rw m.last-is w) (omega (arith, m.last-is))
        (rw (m.last-is, m.reason_is) g) (λ z. bad-reason f i r turn known g (sym m.reason_is ∙ z)) (rw m.last-is anew)
    by (Judged.good now) g anew on = on now g

pub lie-end-to-end : LieEndToEnd
unfolding stretches
lie-end-to-end f = tiled (blocks f) f 0 0 Turn.any Known.lost (omega arith) (omega arith) GoodTo.begun

-- what the list tells of a block
told-append : (i : ℕ) (a b : List Entry) → told i (a ++ b) ≡ told i a + told i b
unfolding told
told-append i [] b = omega arith
told-append i (e ∷ a) b = by (eqb e.block i) (told-append i a b)
  where
    by : (t : Bool) → told i (a ++ b) ≡ told i a + told i b → cond t (e.bytes + told i (a ++ b)) (told i (a ++ b)) ≡ cond t (e.bytes + told i a) (told i a) + told i b
    by true h = omega arith
    by false h = h

told-bad : (i j r : ℕ) → told i (bad_entry j r) ≡ 0
unfolding told bad_entry
told-bad i j zero = refl
told-bad i j (suc r) = either (eqb j i)
  where
    either : (t : Bool) → ◌≡◌ {A = ℕ} (cond t (0 + 0) 0) 0
    either true = omega arith
    either false = refl

told_here : (i n : ℕ) → told i (good_entry i n) ≡ n
unfolding told good_entry
told_here i zero = refl
told_here i (suc n) = simp (eq-eqb i i refl) (omega arith)

told-other : (i j n : ℕ) → (j ≡ i → ⊥) → told i (good_entry j n) ≡ 0
unfolding told good_entry
told-other i j zero h = refl
told-other i j (suc n) h = simp (ne_eqb j i h)

module _ (f : List ℕ) (s : Stretch) where
  abbrev drops : ℕ → ℕ
  drops i = dropped_in (498 * i) (end_at f i) s.start s.stop

  told-before : (i k j : ℕ) → i < j → told i (good_entries k f s j) ≡ 0
  unfolding good_entries told
  told-before i zero j h = refl
  told-before i (suc k) j h =
      omega (arith, told-append i (good_entry j (drops j)) (good_entries k f s (j + 1)), told-other i j (drops j) (λ e. omega arith), told-before i k (j + 1) (omega arith))

  told-behind : (i k j : ℕ) → j + k ≤ i → told i (good_entries k f s j) ≡ 0
  unfolding good_entries told
  told-behind i zero j h = refl
  told-behind i (suc k) j h =
      omega (arith, told-append i (good_entry j (drops j)) (good_entries k f s (j + 1)), told-other i j (drops j) (λ e. omega arith), told-behind i k (j + 1) (omega arith))

  told_in : (i k j : ℕ) → j ≤ i → i < j + k → told i (good_entries k f s j) ≡ drops i
  unfolding good_entries
  told_in i zero j h g = absurd (omega arith)
  told_in i (suc k) j h g =
      ⊎_elim
      (λ (l : j < i).
      told-append i (good_entry j (drops j)) (good_entries k f s (j + 1))
      ∙ add (told-other i j (drops j) (λ e. omega arith)) (told_in i k (j + 1) (omega arith) (omega arith)))
      (λ (l : i ≤ j).
      let z : j ≡ i = omega arith in
      rw z (told-append i (good_entry i (drops i)) (good_entries k f s (i + 1)) ∙ add' (told_here i (drops i)) (told-before i k (i + 1) (omega arith))))
      (less j i)
    where
      add : {a b c : ℕ} → a ≡ 0 → b ≡ c → a + b ≡ c
      add p q = omega arith

      add' : {a b c : ℕ} → a ≡ c → b ≡ 0 → a + b ≡ c
      add' p q = omega arith

  told-all : (i : ℕ) (ss : List Stretch) → told i (entries_of f (s ∷ ss)) ≡ told i (good_entries (s.last - s.first) f s s.first) + told i (entries_of f ss)
  unfolding entries_of
  told-all i ss =
      let G = good_entries (s.last - s.first) f s s.first in
      let B = bad_entry s.last s.reason in
      let a = told-append i (G ++ B) (entries_of f ss) in
      let z : told i (G ++ B) ≡ told i G = told-append i G B ∙ none (told i G) (told-bad i s.last s.reason) in
      a ∙ ap (λ (x : ℕ). x + told i (entries_of f ss)) z
    where
      none : (x : ℕ) {y : ℕ} → y ≡ 0 → x + y ≡ x
      none x e = omega arith

told-later : (f : List ℕ) {j : ℕ} {ss : List Stretch} (i : ℕ) → EndToEnd f j ss → i < j → told i (entries_of f ss) ≡ 0
unfolding entries_of told
told-later f i (EndToEnd.last {s = s} a b w c d) h =
    told-all f s i [] ∙ (let z = told-before f s i (s.last - s.first) s.first (omega arith) in omega arith)
told-later f i (EndToEnd.bad {s = s} {ss = ss} a b w c g d e) h =
    told-all f s i ss ∙ (let z = told-before f s i (s.last - s.first) s.first (omega arith) in let y = told-later f i e (omega arith) in omega arith)

-- each stretch in the list of those from block j on
record Tells (f : List ℕ) (j : ℕ) (all : List Stretch) (s : Stretch) : Type 0 where
  pub from : j ≤ s.first
  pub tells : (i : ℕ) → s.first ≤ i → i < s.last → told i (entries_of f all) ≡ dropped_in (498 * i) (end_at f i) s.start s.stop

tells : (f : List ℕ) {j : ℕ} {ss : List Stretch} → EndToEnd f j ss → Each Stretch (Tells f j ss) ss
unfolding entries_of told
tells f {j} (EndToEnd.last {s = s} a b w c d) =
    Each.one {x = s} (record { from = omega arith; tells = λ i h g. told-all f s i [] ∙ (let z = told_in f s i (s.last - s.first) s.first h (omega arith) in omega arith) }) Each.none
tells f {j} (EndToEnd.bad {s = s} {ss = ss} a b w c g d e) =
    Each.one {x = s}
    (record {
      from = omega arith;
      tells = λ i h g.
          told-all f s i ss
          ∙ (let z = told_in f s i (s.last - s.first) s.first h (omega arith) in let y = told-later f i e (omega arith) in omega arith);
    })
    (each-so
    (λ (t : Stretch) (x : Tells f (s.last + 1) ss t).
    record {
      from = omega (arith, x.from);
      tells = λ i h g.
          told-all f s i ss
          ∙ (let z = told-behind f s i (s.last - s.first) s.first (omega (arith, x.from)) in let y = x.tells i h g in omega arith);
    })
    (tells f e))

-- (d)
each-accounts : (f : List ℕ) {ss : List Stretch} → Each Stretch (Laid f) ss → Each Stretch (Tells f 0 (stretches f)) ss → Each Stretch (AccountsIn f) ss
each-accounts f Each.none t = Each.none
each-accounts f (Each.one {x = s} l ls) (Each.one x xs) =
    Each.one
    (record {
      each = λ i h g.
          let u : end_at f i - 498 * i ≡ used_at f i = omega arith in
          let a = accounts (498 * i) (end_at f i) s.start s.stop (omega arith) (keeps_on l.keeps) in
          sym u ∙ a ∙ ap (λ (y : ℕ). kept_in (498 * i) (end_at f i) s.start s.stop + y) (sym (x.tells i h g));
    })
    (each-accounts f ls xs)

pub accounts-each : AccountsEach
accounts-each f = each-accounts f (all_laid f) (tells f (lie-end-to-end f))
