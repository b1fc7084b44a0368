-- The room that a salvage needs: an entry at most for each block begun.
use Rattle.std.proofs.Common.{◌≡◌, ℕ, zero, suc, ◌+◌, ◌-◌, ◌*◌, ◌%◌, ◌<◌, ◌≤◌, Bool, true, false, cond, eqb, ltb, leb, List, [], ◌∷◌, ◌++◌, length, refl, ⊎_elim, arith, length-append, le-ltb, lt-ltb, eqb-true, leb-true}
use Rattle.shelf.specs.Answers.{Stepped, Off, On}
use Rattle.shelf.specs.Stream.{next, walk}
use Rattle.shelf.specs.Block.{bytes_from}
use Rattle.shelf.specs.Judge.{byte_of, blocks, number_at, used_at, first_at, end_at, reason, walked, in_step}
use Rattle.shelf.specs.Salvage.{Turn, Known, Judged, Stretch, dropped_in, wanted, stepped, taken, judge, kept_by, ending, stretch, onward, stretches_by, stretches, good_entry, bad_entry, good_entries, kept_of, entries_of}
use Rattle.shelf.specs.Stays.{ListRoom, FileRoom}
use Rattle.shelf.proofs.Sides.{less}
use Rattle.shelf.proofs.Bytes.{bytes-long}
use Rattle.shelf.proofs.Ways.{used-so}
use Rattle.shelf.proofs.Scanning.{fine, some-so}

one-good : (i n : ℕ) → length (good_entry i n) ≤ 1
unfolding good_entry
one-good i zero = omega arith
one-good i (suc n) = omega arith

one-bad : (i r : ℕ) → length (bad_entry i r) ≤ 1
unfolding bad_entry
one-bad i zero = omega arith
one-bad i (suc r) = omega arith

no-bad : (i : ℕ) → length (bad_entry i 0) ≡ 0
unfolding bad_entry
no-bad i = refl

few-good : (k : ℕ) (f : List ℕ) (s : Stretch) (i : ℕ) → length (good_entries k f s i) ≤ k
unfolding good_entries
few-good zero f s i = omega arith
few-good (suc k) f s i =
    let d = dropped_in (498 * i) (end_at f i) s.start s.stop in
    omega (arith, length-append (good_entry i d) (good_entries k f s (i + 1)), one-good i d, few-good k f s (i + 1))

-- a stretch and what follows it
joined : (f : List ℕ) (s : Stretch) (k last r n : ℕ) (ss : List Stretch) → length (bad_entry last r) + length (entries_of f ss) ≤ n
    → length (good_entries k f s s.first ++ bad_entry last r ++ entries_of f ss) ≤ k + n
joined f s k last r n ss g =
    let G = good_entries k f s s.first in
    omega (arith, length-append (G ++ bad_entry last r) (entries_of f ss), length-append G (bad_entry last r), few-good k f s s.first)

stretch-few : (f : List ℕ) (first last r n : ℕ) (known : Known) (ss : List Stretch) → length (bad_entry last r) + length (entries_of f ss) ≤ n
    → length (entries_of f (stretch f first last known r ∷ ss)) ≤ last - first + n
unfolding entries_of stretch
stretch-few f first last r n Known.lost ss g = joined f (stretch f first last Known.lost r) (last - first) last r n ss g
stretch-few f first last r n (Known.from a b c) ss g = joined f (stretch f first last (Known.from a b c) r) (last - first) last r n ss g

-- what is left behind the blocks
part : List ℕ → ℕ
part f = cond (eqb (length f % 512) 0) 0 1

part-few : (f : List ℕ) (i : ℕ) → length (bad_entry i (cond (eqb (length f % 512) 0) 0 33)) + length (entries_of f []) ≤ part f
unfolding part entries_of
part-few f i = by (eqb (length f % 512) 0)
  where
    by : (t : Bool) → length (bad_entry i (cond t 0 33)) + 0 ≤ cond t 0 1
    by true = omega (arith, no-bad i)
    by false = omega (arith, one-bad i 33)

few-by : (k : ℕ) (f : List ℕ) (i first : ℕ) (turn : Turn) (known : Known) → first ≤ i → length (entries_of f (stretches_by k f i first turn known)) ≤ i - first + (k + part f)
unfolding stretches_by onward
few-by zero f i first turn known h = stretch-few f first i (cond (eqb (length f % 512) 0) 0 33) (0 + part f) known [] (omega (arith, part-few f i))
few-by (suc k) f i first turn known h =
    by (judge f i turn known) (few-by k f (i + 1) (i + 1) Turn.any Known.lost (omega arith)) (λ turn' known'. few-by k f (i + 1) first turn' known' (omega arith))
  where
    by : (j : Judged) → length (entries_of f (stretches_by k f (i + 1) (i + 1) Turn.any Known.lost)) ≤ i + 1 - (i + 1) + (k + part f)
        → ((turn : Turn) (known : Known) → length (entries_of f (stretches_by k f (i + 1) first turn known)) ≤ i + 1 - first + (k + part f))
        → length (entries_of f (onward f first i known j (stretches_by k f (i + 1)))) ≤ i - first + (suc k + part f)
    by (Judged.bad r) a g = stretch-few f first i r (suc k + part f) known (stretches_by k f (i + 1) (i + 1) Turn.any Known.lost) (omega (arith, one-bad i r))
    by (Judged.good now) a g = let b = g (Turn.only (number_at f i + 1)) now in omega arith

-- (g)
pub list-room : ListRoom
unfolding stretches part
list-room f = let h = few-by (blocks f) f 0 0 Turn.any Known.lost (omega arith) in omega (arith, h)

-- THE NEW FILE: what is kept of a stretch lies in its blocks
start_of : ℕ → Known → ℕ
start_of d Known.lost = d
start_of d (Known.from s p c) = s

kept-most : (g : ℕ) (b : ℕ → ℕ) (end p c : ℕ) → (kept_by g b end p c).place - p ≤ end - p
unfolding kept_by
kept-most zero b end p c = omega arith
kept-most (suc g) b end p c = by (ltb (p + 1) end) (leb (next b p) end) refl (kept-most g b end (next b p) (c + 1))
  where
    by : (t u : Bool) → leb (next b p) end ≡ u → (kept_by g b end (next b p) (c + 1)).place - next b p ≤ end - next b p
        → (cond t (cond u (kept_by g b end (next b p) (c + 1)) (record { place = p; count = c })) (record { place = p; count = c })).place - p ≤ end - p
    by false u e h = omega arith
    by true false e h = omega arith
    by true true e h = let l = leb-true (next b p) end e in omega arith

good-used : (f : List ℕ) (i : ℕ) (turn : Turn) (known now : Known) → judge f i turn known ≡ Judged.good now → used_at f i ≤ 498
unfolding judge
good-used f i turn known now e = by (eqb (reason f i (wanted f i turn)) 0) refl e
  where
    by : (t : Bool) → eqb (reason f i (wanted f i turn)) 0 ≡ t → cond t (taken f i known) (Judged.bad (reason f i (wanted f i turn))) ≡ Judged.good now → used_at f i ≤ 498
    by true g e = (used-so f i (some-so f i (fine f i (wanted f i turn) (eqb-true _ _ g)).alone)).most
    by false g e = let o : ◌≡◌ {A = ℕ} 0 1 = cc in absurd (omega arith)

stepped_start : (lo s : ℕ) (w : Stepped) (now : Known) → stepped s w ≡ Judged.good now → lo ≤ s → lo ≤ start_of lo now
unfolding stepped start_of
stepped_start lo s Off now e h = let o : ◌≡◌ {A = ℕ} 0 1 = cc in absurd (omega arith)
stepped_start lo s (On p c) Known.lost e h = omega arith
stepped_start lo s (On p c) (Known.from s' p' c') e h = let o : s ≡ s' = cc in omega arith

taken_start : (f : List ℕ) (i lo : ℕ) (known now : Known) → taken f i known ≡ Judged.good now → lo ≤ 498 * i → lo ≤ start_of lo known → lo ≤ start_of lo now
unfolding taken start_of
taken_start f i lo (Known.from s p c) now e h g = stepped_start lo s (in_step f i p c) now e g
taken_start f i lo Known.lost now e h g = by (eqb (first_at f i) 65535) now e
  where
    by : (t : Bool) (now : Known) → cond t (Judged.good Known.lost) (stepped (498 * i + first_at f i) (walked f i (walk (byte_of f) (end_at f i) (498 * i + first_at f i) 0))) ≡ Judged.good now
        → lo ≤ start_of lo now
    by true Known.lost e = omega arith
    by true (Known.from s p c) e = let o : ◌≡◌ {A = ℕ} 0 1 = cc in absurd (omega arith)
    by false now e = stepped_start lo (498 * i + first_at f i) (walked f i (walk (byte_of f) (end_at f i) (498 * i + first_at f i) 0)) now e (omega arith)

good_start : (f : List ℕ) (i lo : ℕ) (turn : Turn) (known now : Known) → judge f i turn known ≡ Judged.good now → lo ≤ 498 * i → lo ≤ start_of lo known → lo ≤ start_of lo now
unfolding judge
good_start f i lo turn known now e h g = by (eqb (reason f i (wanted f i turn)) 0) e
  where
    by : (t : Bool) → cond t (taken f i known) (Judged.bad (reason f i (wanted f i turn))) ≡ Judged.good now → lo ≤ start_of lo now
    by true e = taken_start f i lo known now e h g
    by false e = let o : ◌≡◌ {A = ℕ} 0 1 = cc in absurd (omega arith)

pub ending-most : (f : List ℕ) (first last : ℕ) → first ≤ last → (first < last → used_at f (last - 1) ≤ 498) → ending f first last ≤ 498 * last
unfolding ending
ending-most f first last h g =
    ⊎_elim (λ (l : first < last). simp (lt-ltb first last l) (omega (arith, g l))) (λ (l : last ≤ first). simp (le-ltb first last l) (omega arith)) (less first last)

stretch-long : (f : List ℕ) (first last r : ℕ) (known : Known) (ss : List Stretch) → first ≤ last → (first < last → used_at f (last - 1) ≤ 498) → 498 * first ≤ start_of (498 * first) known
    → length (kept_of f (stretch f first last known r ∷ ss)) ≤ 498 * (last - first) + length (kept_of f ss)
unfolding kept_of stretch start_of
stretch-long f first last r Known.lost ss h g k =
    let end = ending f first last in
    omega (arith, length-append (bytes_from (byte_of f) end (end - end)) (kept_of f ss), bytes-long (byte_of f) end (end - end))
stretch-long f first last r (Known.from s p c) ss h g k =
    let end = ending f first last in
    let stop = (kept_by end (byte_of f) end s 0).place in
    omega
    (arith, length-append (bytes_from (byte_of f) s (stop - s)) (kept_of f ss), bytes-long (byte_of f) s (stop - s), kept-most end (byte_of f) end s 0, ending-most f first last h g)

long-by : (k : ℕ) (f : List ℕ) (i first : ℕ) (turn : Turn) (known : Known) → first ≤ i → (first < i → used_at f (i - 1) ≤ 498) → 498 * first ≤ start_of (498 * first) known
    → length (kept_of f (stretches_by k f i first turn known)) ≤ 498 * (i - first) + 498 * k
unfolding stretches_by onward kept_of start_of
long-by zero f i first turn known h g s =
    let e : length (kept_of f []) ≡ 0 = none f in
    omega (arith, stretch-long f first i (cond (eqb (length f % 512) 0) 0 33) known [] h g s)
  where
    none : (f : List ℕ) → length (kept_of f []) ≡ 0
    none f = omega arith
long-by (suc k) f i first turn known h g s =
    by (judge f i turn known) refl (long-by k f (i + 1) (i + 1) Turn.any Known.lost (omega arith) (λ l. absurd (omega arith)) (lost-start (498 * (i + 1))))
    (λ turn' known' u v. long-by k f (i + 1) first turn' known' (omega arith) (λ l. rw (back i) u) v)
  where
    back : (i : ℕ) → i + 1 - 1 ≡ i
    back i = omega arith

    lost-start : (lo : ℕ) → lo ≤ start_of lo Known.lost
    lost-start lo = omega arith

    by : (j : Judged) → judge f i turn known ≡ j → length (kept_of f (stretches_by k f (i + 1) (i + 1) Turn.any Known.lost)) ≤ 498 * (i + 1 - (i + 1)) + 498 * k
        → ((turn : Turn) (known : Known) → used_at f i ≤ 498 → 498 * first ≤ start_of (498 * first) known → length (kept_of f (stretches_by k f (i + 1) first turn known)) ≤ 498 * (i + 1 - first) + 498 * k)
        → length (kept_of f (onward f first i known j (stretches_by k f (i + 1)))) ≤ 498 * (i - first) + 498 * suc k
    by (Judged.bad r) e a rest = omega (arith, stretch-long f first i r known (stretches_by k f (i + 1) (i + 1) Turn.any Known.lost) h g s)
    by (Judged.good now) e a rest =
        let b = rest (Turn.only (number_at f i + 1)) now (good-used f i turn known now e) (good_start f i (498 * first) turn known now e (omega arith) s) in omega arith

pub file-room : FileRoom
unfolding stretches start_of
file-room f = let h = long-by (blocks f) f 0 0 Turn.any Known.lost (omega arith) (λ l. absurd (omega arith)) (omega arith) in omega arith
