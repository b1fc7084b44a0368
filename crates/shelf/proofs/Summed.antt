-- Over a whole file: of the used bytes of the good blocks each is kept or counted as dropped.
use Rattle.std.proofs.Common.{◌≡◌, ℕ, zero, suc, ◌+◌, ◌-◌, ◌*◌, ◌<◌, ◌≤◌, max, ◌⊎◌, List, [], ◌∷◌, ◌++◌, length, sym, refl, ap, ◌∙◌, inl, inr, ⊎_elim, arith, length-append}
use Rattle.shelf.specs.Block.{bytes_from}
use Rattle.shelf.specs.Judge.{byte_of, used_at, end_at}
use Rattle.shelf.specs.Salvage.{Stretch, Entry, dropped_in, ending, kept_of, good_entry, bad_entry, good_entries, entries_of, bytes_dropped}
use Rattle.shelf.specs.Stays.{kept_in}
use Rattle.shelf.specs.Saved.{Each, used_by, good_bytes, AccountsAll}
use Rattle.shelf.proofs.Sides.{less}
use Rattle.shelf.proofs.Bytes.{bytes-long}
use Rattle.shelf.proofs.Stays.{accounts}
use Rattle.shelf.proofs.Keeping.{keeps_on, keeps-within}
use Rattle.shelf.proofs.Laid.{Laid, run-full, run-used, ending-most, ending-some, all_laid}

dropped-append : (a b : List Entry) → bytes_dropped (a ++ b) ≡ bytes_dropped a + bytes_dropped b
unfolding bytes_dropped
dropped-append [] b = omega arith
dropped-append (e ∷ a) b = omega (arith, dropped-append a b)

dropped-good : (i n : ℕ) → bytes_dropped (good_entry i n) ≡ n
unfolding bytes_dropped good_entry
dropped-good i zero = refl
dropped-good i (suc n) = omega arith

dropped-bad : (i r : ℕ) → bytes_dropped (bad_entry i r) ≡ 0
unfolding bytes_dropped bad_entry
dropped-bad i zero = refl
dropped-bad i (suc r) = omega arith

-- the kept bytes of one block, and those behind it
joins : (lo hi far start stop : ℕ) → lo ≤ hi → hi ≤ far → start ≤ stop → (hi ≡ far) ⊎ (stop ≤ hi) → kept_in lo hi start stop + (stop - max far start) ≡ stop - max lo start
joins lo hi far start stop a b c e =
    ⊎_elim
    (λ (h : hi ≡ far).
    ⊎_elim (λ (g : stop < far). omega arith) (λ (g : far ≤ stop). ⊎_elim (λ (k : start < far). omega arith) (λ (k : far ≤ start). omega arith) (less start far)) (less stop far))
    (λ (h : stop ≤ hi). omega arith) e

module _ (f : List ℕ) (s : Stretch) (l : Laid f s) where
  ends_so : s.stop ≤ ending f s.first s.last
  ends_so = keeps-within l.keeps l.high

  block-ends : (i : ℕ) → s.first ≤ i → i < s.last → (end_at f i ≡ 498 * (i + 1)) ⊎ (s.stop ≤ end_at f i)
  block-ends i h g =
      ⊎_elim (λ (m : i + 1 < s.last). inl (omega (arith, run-full l.run i h m)))
      (λ (m : s.last ≤ i + 1).
      let z : s.last - 1 ≡ i = omega arith in
      let e : ending f s.first s.last ≡ end_at f i = rw z at (ending-some f s.first s.last (omega arith)) in
      inr (omega (arith, ends_so)))
      (less (i + 1) s.last)

  blocks-add : (k i : ℕ) → s.first ≤ i → i + k ≡ s.last → used_by k f i ≡ s.stop - max (498 * i) s.start + bytes_dropped (good_entries k f s i)
  unfolding used_by good_entries bytes_dropped
  blocks-add zero i h e =
      let o : s.stop ≤ 498 * i = omega (arith, ends_so, ending-most l.run) in
      omega arith
  blocks-add (suc k) i h e =
      let d = dropped_in (498 * i) (end_at f i) s.start s.stop in
      let u = run-used l.run i h (omega arith) in
      let on = keeps_on l.keeps in
      let a = accounts (498 * i) (end_at f i) s.start s.stop (omega arith) on in
      let j = joins (498 * i) (end_at f i) (498 * (i + 1)) s.start s.stop (omega arith) (omega (arith, u.most)) on (block-ends i h (omega arith)) in
      let r = blocks-add k (i + 1) (omega arith) (omega arith) in
      let t = dropped-append (good_entry i d) (good_entries k f s (i + 1)) in
      let g = dropped-good i d in
      add-up (used_at f i) (used_by k f (i + 1)) (kept_in (498 * i) (end_at f i) s.start s.stop) d (s.stop - max (498 * (i + 1)) s.start) (s.stop - max (498 * i) s.start) (bytes_dropped (good_entries k f s (i + 1)))
      (bytes_dropped (good_entry i d ++ good_entries k f s (i + 1))) (used-is i a) j r (t ∙ ap (λ (x : ℕ). x + bytes_dropped (good_entries k f s (i + 1))) g)
    where
      used-is : (i : ℕ) {x : ℕ} → end_at f i - 498 * i ≡ x → used_at f i ≡ x
      used-is i e = let z : end_at f i - 498 * i ≡ used_at f i = omega arith in sym z ∙ e

      add-up : (used rest kept d far near after all : ℕ) → used ≡ kept + d → kept + far ≡ near → rest ≡ far + after → all ≡ d + after → used + rest ≡ near + all
      add-up used rest kept d far near after all a b c e = omega arith

  stretch-adds : used_by (s.last - s.first) f s.first ≡ length (bytes_from (byte_of f) s.start (s.stop - s.start)) + bytes_dropped (good_entries (s.last - s.first) f s s.first)
  stretch-adds =
      let o = l.run.ordered in
      let w = l.low in
      let m : max (498 * s.first) s.start ≡ s.start = omega arith in
      blocks-add (s.last - s.first) s.first (omega arith) (omega arith)
      ∙ ap (λ (x : ℕ). s.stop - x + bytes_dropped (good_entries (s.last - s.first) f s s.first)) m
      ∙ ap (λ (x : ℕ). x + bytes_dropped (good_entries (s.last - s.first) f s s.first)) (sym (bytes-long (byte_of f) s.start (s.stop - s.start)))

all-add : (f : List ℕ) {ss : List Stretch} → Each Stretch (Laid f) ss → good_bytes f ss ≡ length (kept_of f ss) + bytes_dropped (entries_of f ss)
unfolding good_bytes kept_of entries_of bytes_dropped
all-add f Each.none = refl
all-add f (Each.one {x = s} {xs = ss} l ls) =
    let A = bytes_from (byte_of f) s.start (s.stop - s.start) in
    let G = good_entries (s.last - s.first) f s s.first in
    let B = bad_entry s.last s.reason in
    let a = stretch-adds f s l in
    let r = all-add f ls in
    let k = length-append A (kept_of f ss) in
    let d = dropped-append (G ++ B) (entries_of f ss) ∙ ap (λ (x : ℕ). x + bytes_dropped (entries_of f ss)) (dropped-append G B) in
    let z = dropped-bad s.last s.reason in
    add-up (used_by (s.last - s.first) f s.first) (good_bytes f ss) (length A) (bytes_dropped G) (length (kept_of f ss)) (bytes_dropped (entries_of f ss)) (bytes_dropped B) (length (A ++ kept_of f ss)) (bytes_dropped (G ++ B ++ entries_of f ss)) a r k d z
  where
    add-up : (used rest kept g after es b all drop : ℕ) → used ≡ kept + g → rest ≡ after + es → all ≡ kept + after → drop ≡ g + b + es → b ≡ 0 → used + rest ≡ all + drop
    add-up used rest kept g after es b all drop p q r s t = omega arith

-- (d)
pub accounts-all : AccountsAll
accounts-all f = all-add f (all_laid f)
