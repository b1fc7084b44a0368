-- The reader accepts a file exactly where no block of it is bad and its first number, if it has one, is 0.
use Rattle.std.proofs.Common.{◌≡◌, ℕ, zero, suc, ◌+◌, ◌-◌, ◌%◌, ◌≤◌, Bool, true, false, cond, eqb, List, [], ◌∷◌, ◌++◌, length, sym, refl, ap, ◌∙◌, inl, inr, ⊎_elim, arith, le-ltb, lt-ltb, eq-eqb, eqb-true}
use borrow.Author.Tests.{eqb-false}
use Rattle.shelf.specs.Answers.{Stepped, Off, On, Whole}
use Rattle.shelf.specs.Stream.{walk, first_from}
use Rattle.shelf.specs.Block.{bytes_from}
use Rattle.shelf.specs.Judge.{byte_of, blocks, number_at, first_at, end_at, some_used, rest_zero, first_inside, zero_first, alone, reason, walked, in_step}
use Rattle.shelf.specs.Shelf as shelf
use Rattle.shelf.specs.Shelf.{scan_by, scan, read_scanned, shelf_read}
use Rattle.shelf.specs.Theorems.{Octets}
use Rattle.shelf.specs.Salvage.{Turn, Known, Judged, Stretch, Entry, wanted, stepped, taken, judge, stretch, onward, stretches_by, stretches, good_entries, bad_entry, entries_of}
use Rattle.shelf.specs.Saved.{Each, NoneBad, BeginsAt0, Accepts, AcceptsExactly}
use Rattle.shelf.proofs.Ways.{used-so}
use Rattle.shelf.proofs.Scanning.{both, fine, some-so}
use Rattle.shelf.proofs.Scans.{Scans, scanned, none_left, scan-within}
use Rattle.shelf.proofs.Theorems.{read-scan}
use Rattle.shelf.proofs.Stays.{kept-so}
use Rattle.shelf.proofs.Laid.{good-so, went}

-- a bad block has a reason
bad-step : (s r : ℕ) (w : Stepped) → stepped s w ≡ Judged.bad r → r ≡ 33
unfolding stepped
bad-step s r Off e = cc
bad-step s r (On p c) e = cc

bad-taken : (f : List ℕ) (i r : ℕ) (known : Known) → taken f i known ≡ Judged.bad r → r ≡ 33
unfolding taken
bad-taken f i r (Known.from s p c) e = bad-step s r (in_step f i p c) e
bad-taken f i r Known.lost e = by _ (eqb (first_at f i) 65535) e
  where
    by : (s : ℕ) (t : Bool) → cond t (Judged.good Known.lost) (stepped s (walked f i (walk (byte_of f) (end_at f i) s 0))) ≡ Judged.bad r → r ≡ 33
    by s true e = cc
    by s false e = bad-step s r (walked f i (walk (byte_of f) (end_at f i) s 0)) e

pub bad-reason : (f : List ℕ) (i r : ℕ) (turn : Turn) (known : Known) → judge f i turn known ≡ Judged.bad r → r ≡ 0 → ⊥
unfolding judge
bad-reason f i r turn known e z = by (eqb (reason f i (wanted f i turn)) 0) refl e
  where
    by : (t : Bool) → eqb (reason f i (wanted f i turn)) 0 ≡ t → cond t (taken f i known) (Judged.bad (reason f i (wanted f i turn))) ≡ Judged.bad r → ⊥
    by true g e = let o = bad-taken f i r known e in omega arith
    by false g e = let o : reason f i (wanted f i turn) ≡ r = cc in eqb-false _ _ g (o ∙ z)

-- so that the list tells it
each_right : {P : Entry → Type 0} (a b : List Entry) → Each Entry P (a ++ b) → Each Entry P b
each_right [] b e = e
each_right (x ∷ a) b (Each.one p e) = each_right a b e

each_left : {P : Entry → Type 0} (a b : List Entry) → Each Entry P (a ++ b) → Each Entry P a
each_left [] b e = Each.none
each_left (x ∷ a) b (Each.one p e) = Each.one p (each_left a b e)

told : (i r : ℕ) → NoneBad (bad_entry i r) → r ≡ 0
unfolding bad_entry
told i zero e = refl
told i (suc r) (Each.one p e) = p

stretch-told : (f : List ℕ) (first last r : ℕ) (known : Known) (ss : List Stretch) → NoneBad (entries_of f (stretch f first last known r ∷ ss)) → r ≡ 0
unfolding entries_of stretch
stretch-told f first last r Known.lost ss e =
    let G = good_entries (last - first) f (stretch f first last Known.lost r) first in
    told last r (each_right G (bad_entry last r) (each_left (G ++ bad_entry last r) (entries_of f ss) e))
stretch-told f first last r (Known.from a b c) ss e =
    let G = good_entries (last - first) f (stretch f first last (Known.from a b c) r) first in
    told last r (each_right G (bad_entry last r) (each_left (G ++ bad_entry last r) (entries_of f ss) e))

even-so : (f : List ℕ) → ◌≡◌ {A = ℕ} (cond (eqb (length f % 512) 0) 0 33) 0 → length f % 512 ≡ 0
even-so f e = by (eqb (length f % 512) 0) refl e
  where
    by : (t : Bool) → eqb (length f % 512) 0 ≡ t → ◌≡◌ {A = ℕ} (cond t 0 33) 0 → length f % 512 ≡ 0
    by true g e = eqb-true _ _ g
    by false g e = absurd (omega arith)

record Scans-whole (k : ℕ) (f : List ℕ) (i p c : ℕ) : Type 0 where
  pub bytes : ℕ
  pub records : ℕ
  pub whole : scan_by k f i p c ≡ Whole bytes records

ends-whole : (f : List ℕ) (i first p c : ℕ) (turn : Turn) (known : Known) → NoneBad (entries_of f (stretches_by zero f i first turn known)) → Scans-whole zero f i p c
unfolding stretches_by scan_by
ends-whole f i first p c turn known e =
    let z = even-so f (stretch-told f first i (cond (eqb (length f % 512) 0) 0 33) known [] e) in
    record { bytes = p; records = c; whole = simp (eq-eqb (length f % 512) 0 z) }

goes_on_lem : (k : ℕ) (f : List ℕ) (i p c q d : ℕ) → reason f i i ≡ 0 → in_step f i p c ≡ On q d → Scans-whole k f (i + 1) q d → Scans-whole (suc k) f i p c
unfolding scan_by shelf.onward
goes_on_lem k f i p c q d e g r = record { bytes = r.bytes; records = r.records; whole = simp (eq-eqb (reason f i i) 0 e, g) r.whole }

whole_from : (k : ℕ) (f : List ℕ) (i p c : ℕ) → NoneBad (entries_of f (stretches_by k f i 0 (Turn.only i) (Known.from 0 p c))) → Scans-whole k f i p c
unfolding stretches_by onward wanted taken
whole_from zero f i p c e = ends-whole f i 0 p c (Turn.only i) (Known.from 0 p c) e
whole_from (suc k) f i p c e = by (judge f i (Turn.only i) (Known.from 0 p c)) refl e (λ q d. whole_from k f (i + 1) q d)
  where
    by : (j : Judged) → judge f i (Turn.only i) (Known.from 0 p c) ≡ j → NoneBad (entries_of f (onward f 0 i (Known.from 0 p c) j (stretches_by k f (i + 1))))
        → ((q d : ℕ) → NoneBad (entries_of f (stretches_by k f (i + 1) 0 (Turn.only (i + 1)) (Known.from 0 q d))) → Scans-whole k f (i + 1) q d) → Scans-whole (suc k) f i p c
    by (Judged.bad r) g n rest =
        absurd (bad-reason f i r (Turn.only i) (Known.from 0 p c) g (stretch-told f 0 i r (Known.from 0 p c) (stretches_by k f (i + 1) (i + 1) Turn.any Known.lost) n))
    by (Judged.good now) g n rest =
        let j = good-so f i (Turn.only i) (Known.from 0 p c) now g in
        let v = went 0 (in_step f i p c) now j.taken in
        let m : number_at f i + 1 ≡ i + 1 = ap (λ (x : ℕ). x + 1) (fine f i i j.fine).number in
        let n' : NoneBad (entries_of f (stretches_by k f (i + 1) 0 (Turn.only (i + 1)) (Known.from 0 v.place v.count))) = rw (m, v.now) at n in
        goes_on_lem k f i p c v.place v.count j.fine v.on (rest v.place v.count n')

-- the first block
zero-so : (f : List ℕ) → alone f 0 ≡ true → number_at f 0 ≡ 0 → first_at f 0 ≡ 0
unfolding alone zero_first
zero-so f e n =
    let a = (both (some_used f 0) (cond (rest_zero f 0) (cond (first_inside f 0) (zero_first f 0) false) false) e).1 in
    let b = (both (rest_zero f 0) (cond (first_inside f 0) (zero_first f 0) false) a).1 in
    let c = (both (first_inside f 0) (zero_first f 0) b).1 in
    eqb-true _ _ (sym (simp (eq-eqb (number_at f 0) 0 n)) ∙ c)

record Begins (f : List ℕ) (now : Known) : Type 0 where
  pub place : ℕ
  pub count : ℕ
  pub fine : reason f 0 0 ≡ 0
  pub on : in_step f 0 0 0 ≡ On place count
  pub known : now ≡ Known.from 0 place count

begins : (f : List ℕ) (now : Known) → number_at f 0 ≡ 0 → judge f 0 Turn.any Known.lost ≡ Judged.good now → Begins f now
unfolding wanted taken in_step first_from
begins f now z g =
    let j = good-so f 0 Turn.any Known.lost now g in
    let r : reason f 0 0 ≡ 0 = ap (reason f 0) (sym z) ∙ j.fine in
    let q = fine f 0 0 r in
    let a = zero-so f q.alone z in
    let u = (used-so f 0 (some-so f 0 q.alone)).some in
    let t : stepped 0 (walked f 0 (walk (byte_of f) (end_at f 0) 0 0)) ≡ Judged.good now = rw a at j.taken in
    let v = went 0 (walked f 0 (walk (byte_of f) (end_at f 0) 0 0)) now t in
    record { place = v.place; count = v.count; fine = r; on = simp (a, lt-ltb 0 (end_at f 0) (omega arith)) v.on; known = v.now }

begins-whole : (k : ℕ) (f : List ℕ) → number_at f 0 ≡ 0 → NoneBad (entries_of f (stretches_by (suc k) f 0 0 Turn.any Known.lost)) → Scans-whole (suc k) f 0 0 0
unfolding stretches_by onward
begins-whole k f z e = by (judge f 0 Turn.any Known.lost) refl e
  where
    by : (j : Judged) → judge f 0 Turn.any Known.lost ≡ j → NoneBad (entries_of f (onward f 0 0 Known.lost j (stretches_by k f (0 + 1)))) → Scans-whole (suc k) f 0 0 0
    by (Judged.bad r) g n = absurd (bad-reason f 0 r Turn.any Known.lost g (stretch-told f 0 0 r Known.lost (stretches_by k f (0 + 1) (0 + 1) Turn.any Known.lost) n))
    by (Judged.good now) g n =
        let b = begins f now z g in
        let m : number_at f 0 + 1 ≡ 0 + 1 = ap (λ (x : ℕ). x + 1) z in
        let n' : NoneBad (entries_of f (stretches_by k f (0 + 1) 0 (Turn.only (0 + 1)) (Known.from 0 b.place b.count))) = rw (m, b.known) at n in
        goes_on_lem k f 0 0 0 b.place b.count b.fine b.on (whole_from k f (0 + 1) b.place b.count n')

scans-whole : (f : List ℕ) → BeginsAt0 f → NoneBad (entries_of f (stretches f)) → Scans-whole (blocks f) f 0 0 0
unfolding stretches
scans-whole f z e = by (blocks f) refl e
  where
    by : (k : ℕ) → blocks f ≡ k → NoneBad (entries_of f (stretches_by k f 0 0 Turn.any Known.lost)) → Scans-whole k f 0 0 0
    by zero q n = ends-whole f 0 0 0 0 Turn.any Known.lost n
    by (suc k) q n = begins-whole k f (⊎_elim (λ (l : length f ≡ 0). absurd (omega arith)) (λ l. l) z) n

-- (e)
accepts-so : (f : List ℕ) (room : ℕ) → length f ≤ room → BeginsAt0 f → NoneBad (entries_of f (stretches f)) → Accepts f room
unfolding shelf_read read_scanned scan
accepts-so f room h z e =
    let s = scans-whole f z e in
    let n : s.bytes ≤ room = omega (arith, scan-within f s.whole) in
    record {
      records = s.records;
      bytes = s.bytes;
      stream = bytes_from (byte_of f) 0 s.bytes;
      reads = ap (read_scanned f room) s.whole ∙ simp (le-ltb room s.bytes n);
    }

none-bad : (f : List ℕ) (n c : ℕ) → Octets f → scan f ≡ Whole n c → NoneBad (entries_of f (stretches f))
none-bad f n c o e = rw (kept-so f n c o e).entries Each.none

number-0 : (f : List ℕ) (n c : ℕ) → scan f ≡ Whole n c → BeginsAt0 f
unfolding scan
number-0 f n c e = by (blocks f) refl (scanned f n c (blocks f) 0 0 0 e)
  where
    by : (k : ℕ) → blocks f ≡ k → Scans f n c k 0 0 0 → BeginsAt0 f
    by zero q s = inl (omega (arith, (none_left f n c 0 0 0 s).2))
    by (suc k) q (Scans.more g s r) = inr g.number

pub accepts-exactly : AcceptsExactly
accepts-exactly f room o h = (
  λ a.
      let s = (read-scan f a.stream room a.records a.bytes a.reads).0 in
      (none-bad f a.bytes a.records o s, number-0 f a.bytes a.records s),
  λ x. accepts-so f room h x.1 x.0,
)
