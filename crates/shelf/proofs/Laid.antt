-- What holds of every stretch: its blocks are fine, full and numbered one after another; no block names a record's start before the one that is taken up,
-- and from there on no length is too great.
use Rattle.std.proofs.Common.{◌≡◌, ℕ, zero, suc, ◌+◌, ◌-◌, ◌*◌, ◌%◌, ◌<◌, ◌≤◌, Bool, true, false, cond, eqb, ltb, List, [], length, sym, refl, ap, ◌∙◌, ⊎_elim, arith, ltb-true, le-ltb, lt-ltb, eqb-true}
use mathlib.Core.Bool.{false≢true}
use borrow.Author.Tests.{eqb-false}
use Rattle.shelf.specs.Answers.{Walk, Over, To, Stepped, Off, On}
use Rattle.shelf.specs.Stream.{walk}
use Rattle.shelf.specs.Judge.{byte_of, blocks, number_at, used_at, first_at, end_at, some_used, rest_zero, first_inside, zero_first, alone, reason, closes, walked, in_step}
use Rattle.shelf.specs.Salvage.{Turn, Known, Judged, Stretch, Stop, wanted, stepped, taken, judge, ending, stretch, onward, stretches_by, stretches}
use Rattle.shelf.specs.Saved.{Each}
use Rattle.shelf.proofs.Sides.{less}
use Rattle.shelf.proofs.Walks.{walked-so, longer-to}
use Rattle.shelf.proofs.Ways.{Used, used-so}
use Rattle.shelf.proofs.Scanning.{both, fine, some-so, full-before, steps}
use Rattle.shelf.proofs.Keeping.{Keeps, keeps-so, kept-is}

-- the blocks from `first` on, before i
pub record Run (f : List ℕ) (first i : ℕ) : Type 0 where
  pub ordered : first ≤ i
  pub within : i ≤ blocks f
  pub fine : (j : ℕ) → first ≤ j → j < i → reason f j (number_at f j) ≡ 0
  pub follows : (j : ℕ) → first ≤ j → j + 1 < i → number_at f (j + 1) ≡ number_at f j + 1

pub run-used : {f : List ℕ} {first i : ℕ} → Run f first i → (j : ℕ) → first ≤ j → j < i → Used (used_at f j)
run-used {f} r j h g = used-so f j (some-so f j (fine f j (number_at f j) (r.fine j h g)).alone)

pub run-full : {f : List ℕ} {first i : ℕ} → Run f first i → (j : ℕ) → first ≤ j → j + 1 < i → used_at f j ≡ 498
run-full {f} r j h g = full-before f j (some-so f j (fine f j (number_at f j) (r.fine j h (omega arith))).alone) (omega (arith, r.within))

-- what stands before block i
data Turns (f : List ℕ) (first i : ℕ) : Turn → Type 0 where
  at_first : first ≡ i → Turns f first i Turn.any
  behind : {n : ℕ} → first < i → n ≡ number_at f (i - 1) + 1 → Turns f first i (Turn.only n)

pub data Reads (f : List ℕ) (first i : ℕ) : Known → Type 0 where
  unnamed : ((j : ℕ) → first ≤ j → j < i → first_at f j ≡ 65535) → Reads f first i Known.lost
  from : {s p c : ℕ} (at : ℕ) → first ≤ at → at < i → ((j : ℕ) → first ≤ j → j < at → first_at f j ≡ 65535) → (first_at f at ≡ 65535 → ⊥) → s ≡ 498 * at + first_at f at
      → walk (byte_of f) (ending f first i) s 0 ≡ To p c → Reads f first i (Known.from s p c)

pub ending-next : (f : List ℕ) (first i : ℕ) → first ≤ i → ending f first (i + 1) ≡ end_at f i
unfolding ending
ending-next f first i h = let z : i + 1 - 1 ≡ i = omega arith in simp (lt-ltb first (i + 1) (omega arith), z)

pub ending-none : (f : List ℕ) (i : ℕ) → ending f i i ≡ 498 * i
unfolding ending
ending-none f i = simp (le-ltb i i (omega arith))

pub ending-some : (f : List ℕ) (first i : ℕ) → first < i → ending f first i ≡ end_at f (i - 1)
unfolding ending
ending-some f first i h = simp (lt-ltb first i h)

-- a block judged good
pub record Good (f : List ℕ) (i : ℕ) (turn : Turn) (known now : Known) : Type 0 where
  pub fine : reason f i (wanted f i turn) ≡ 0
  pub taken : taken f i known ≡ Judged.good now

pub good-so : (f : List ℕ) (i : ℕ) (turn : Turn) (known now : Known) → judge f i turn known ≡ Judged.good now → Good f i turn known now
unfolding judge
good-so f i turn known now e = by (eqb (reason f i (wanted f i turn)) 0) refl e
  where
    by : (t : Bool) → eqb (reason f i (wanted f i turn)) 0 ≡ t → cond t (taken f i known) (Judged.bad (reason f i (wanted f i turn))) ≡ Judged.good now → Good f i turn known now
    by true g e = record { fine = eqb-true _ _ g; taken = e }
    by false g e = let o : ◌≡◌ {A = ℕ} 0 1 = cc in absurd (omega arith)

pub record Went (s : ℕ) (w : Stepped) (known : Known) : Type 0 where
  pub place : ℕ
  pub count : ℕ
  pub on : w ≡ On place count
  pub now : known ≡ Known.from s place count

pub went : (s : ℕ) (w : Stepped) (now : Known) → stepped s w ≡ Judged.good now → Went s w now
unfolding stepped
went s Off now e = let o : ◌≡◌ {A = ℕ} 0 1 = cc in absurd (omega arith)
went s (On q d) now e = record { place = q; count = d; on = refl; now = cc }

walked_to : (f : List ℕ) (i q d : ℕ) (w : Walk) → walked f i w ≡ On q d → w ≡ To q d
unfolding walked
walked_to f i q d (Over p) e = let o : ◌≡◌ {A = ℕ} 0 1 = cc in absurd (omega arith)
walked_to f i q d (To p c) e = by (closes f i) (eqb p (end_at f i)) e
  where
    same : On p c ≡ On q d → To p c ≡ To q d
    same e = cc

    by : (t u : Bool) → cond t (cond u (On p c) Off) (On p c) ≡ On q d → To p c ≡ To q d
    by true true e = same e
    by true false e = let o : ◌≡◌ {A = ℕ} 0 1 = cc in absurd (omega arith)
    by false u e = same e

-- the number that block i must have
number-so : (f : List ℕ) (first i : ℕ) (turn : Turn) → Turns f first i turn → reason f i (wanted f i turn) ≡ 0 → (reason f i (number_at f i) ≡ 0) × (first < i → number_at f i ≡ number_at f (i - 1) + 1)
unfolding wanted
number-so f first i Turn.any (Turns.at_first h) e = (e, λ g. absurd (omega arith))
number-so f first i (Turn.only n) (Turns.behind h g) e =
    let m = (fine f i n e).number in (ap (reason f i) m ∙ e, λ l. m ∙ g)

run_none : (f : List ℕ) (i : ℕ) → i ≤ blocks f → Run f i i
run_none f i h = record { ordered = omega arith; within = h; fine = λ j a g. absurd (omega arith); follows = λ j a g. absurd (omega arith) }

run_more : (f : List ℕ) (first i : ℕ) → Run f first i → i < blocks f → reason f i (number_at f i) ≡ 0 → (first < i → number_at f i ≡ number_at f (i - 1) + 1) → Run f first (i + 1)
run_more f first i r h e g =
    let o = r.ordered in
    record {
      ordered = omega arith;
      within = omega arith;
      fine = λ j a l.
          ⊎_elim (λ (m : j < i). r.fine j a m) (λ (m : i ≤ j). let z : j ≡ i = omega arith in rw z e) (less j i);
      follows = λ j a l.
          ⊎_elim (λ (m : j + 1 < i). r.follows j a m)
          (λ (m : i ≤ j + 1).
          let z : j + 1 ≡ i = omega arith in
          let y : i - 1 ≡ j = omega arith in
          rw z (rw y at (g (omega arith))))
          (less (j + 1) i);
    }

reads_more : (f : List ℕ) (first i : ℕ) (known now : Known) → first ≤ i → ending f first i ≤ 498 * i → Reads f first i known → taken f i known ≡ Judged.good now → Reads f first (i + 1) now
unfolding taken
reads_more f first i known now o l (Reads.from {s = s} {p = p} {c = c} at a b u n e w) g =
    let v = went s (in_step f i p c) now g in
    let t = steps f i p c v.place v.count v.on in
    rw v.now
    (Reads.from at a (omega arith) u n e
    (ap (λ (x : ℕ). walk (byte_of f) x s 0) (ending-next f first i o) ∙ longer-to (byte_of f) (ending f first i) (end_at f i) s 0 p c (omega arith) w ∙ t.walk))
reads_more f first i known now o l (Reads.unnamed u) g = by _ refl (eqb (first_at f i) 65535) refl g
  where
    by : (s : ℕ) → s ≡ 498 * i + first_at f i → (t : Bool) → eqb (first_at f i) 65535 ≡ t → cond t (Judged.good Known.lost) (stepped s (walked f i (walk (byte_of f) (end_at f i) s 0))) ≡ Judged.good now
        → Reads f first (i + 1) now
    by s z true h e =
        let z : now ≡ Known.lost = cc in
        rw z (Reads.unnamed (λ j a b. ⊎_elim (λ (m : j < i). u j a m) (λ (m : i ≤ j). let y : j ≡ i = omega arith in rw y (eqb-true _ _ h)) (less j i)))
    by s z false h e =
        let v = went s (walked f i (walk (byte_of f) (end_at f i) s 0)) now e in
        rw v.now
        (Reads.from i o (omega arith) u (eqb-false _ _ h) z
        (ap (λ (x : ℕ). walk (byte_of f) x s 0) (ending-next f first i o) ∙ walked_to f i v.place v.count (walk (byte_of f) (end_at f i) s 0) v.on))

pub ending-most : {f : List ℕ} {first i : ℕ} → Run f first i → ending f first i ≤ 498 * i
ending-most {f} {first} {i} r =
    let o = r.ordered in
    ⊎_elim (λ (h : first < i). let u = run-used r (i - 1) (omega arith) (omega arith) in omega (arith, ending-some f first i h, u.most))
    (λ (h : i ≤ first). let z : first ≡ i = omega arith in rw z (omega (arith, ending-none f i)))
    (less first i)

-- where the first record that is named begins
inside-so : (f : List ℕ) (i : ℕ) → alone f i ≡ true → first_inside f i ≡ true
unfolding alone
inside-so f i e = (both (first_inside f i) (zero_first f i) (both (rest_zero f i) (cond (first_inside f i) (zero_first f i) false) (both (some_used f i) (cond (rest_zero f i) (cond (first_inside f i) (zero_first f i) false) false) e).1).1).0

pub first_below : (f : List ℕ) (i : ℕ) → reason f i (number_at f i) ≡ 0 → (first_at f i ≡ 65535 → ⊥) → first_at f i < used_at f i
unfolding first_inside
first_below f i e n = by (ltb (first_at f i) (used_at f i)) refl (eqb (first_at f i) 65535) refl (inside-so f i (fine f i (number_at f i) e).alone)
  where
    by : (t : Bool) → ltb (first_at f i) (used_at f i) ≡ t → (u : Bool) → eqb (first_at f i) 65535 ≡ u → cond t true u ≡ true → first_at f i < used_at f i
    by true h u g e = ltb-true _ _ h
    by false h true g e = absurd (n (eqb-true _ _ g))
    by false h false g e = absurd (false≢true e)

-- A STRETCH, as it is told
pub data TakesUp (f : List ℕ) (first last start : ℕ) : Type 0 where
  nowhere : ((j : ℕ) → first ≤ j → j < last → first_at f j ≡ 65535) → start ≡ ending f first last → TakesUp f first last start
  named : (at : ℕ) → first ≤ at → at < last → ((j : ℕ) → first ≤ j → j < at → first_at f j ≡ 65535) → (first_at f at ≡ 65535 → ⊥) → start ≡ 498 * at + first_at f at → TakesUp f first last start

pub record Laid (f : List ℕ) (s : Stretch) : Type 0 where
  pub run : Run f s.first s.last
  pub takes : TakesUp f s.first s.last s.start
  pub records : List (List ℕ)
  pub keeps : Keeps (byte_of f) (ending f s.first s.last) s.start s.stop records
  pub count : s.count ≡ length records
  pub low : 498 * s.first ≤ s.start
  pub high : s.start ≤ ending f s.first s.last

pub ending-least : {f : List ℕ} {first i : ℕ} → Run f first i → 498 * first ≤ ending f first i
ending-least {f} {first} {i} r =
    let o = r.ordered in
    ⊎_elim (λ (h : first < i). omega (arith, ending-some f first i h)) (λ (h : i ≤ first). let z : first ≡ i = omega arith in rw z (omega (arith, ending-none f i))) (less first i)

pub ending-past : {f : List ℕ} {first i : ℕ} → Run f first i → (j : ℕ) → first ≤ j → j < i → end_at f j ≤ ending f first i
ending-past {f} {first} {i} r j h g =
    let e = ending-some f first i (omega arith) in
    ⊎_elim (λ (l : j + 1 < i). omega (arith, run-full r j h l))
    (λ (l : i ≤ j + 1). let z : i - 1 ≡ j = omega arith in rw (e, z) (omega arith)) (less (j + 1) i)

stretch-laid : (f : List ℕ) (first i r : ℕ) (known : Known) → Run f first i → Reads f first i known → Laid f (stretch f first i known r)
unfolding stretch
stretch-laid f first i r known run (Reads.unnamed u) =
    let e = ending f first i in
    record {
      run = run;
      takes = TakesUp.nowhere u refl;
      records = [];
      keeps = Keeps.stops (λ (g : e + 1 < e). absurd (omega arith));
      count = refl;
      low = ending-least run;
      high = omega arith;
    }
stretch-laid f first i r known run (Reads.from {s = s} at a b u n e w) =
    let k = keeps-so (walked-so w) in
    let z : 0 + length k.records ≡ length k.records = omega arith in
    let kept = kept-is k.keeps (ending f first i) 0 (omega arith) in
    let below = first_below f at (run.fine at a b) n in
    record {
      run = run;
      takes = TakesUp.named at a b u n e;
      records = k.records;
      keeps = rw kept k.keeps;
      count = ap (λ (x : Stop). x.count) kept ∙ z;
      low = omega arith;
      high = omega (arith, ending-past run at a b);
    }

every-laid : (k : ℕ) (f : List ℕ) (i first : ℕ) (turn : Turn) (known : Known) → i + k ≡ blocks f → Run f first i → Turns f first i turn → Reads f first i known
    → Each Stretch (Laid f) (stretches_by k f i first turn known)
unfolding stretches_by onward
every-laid zero f i first turn known e run t r = Each.one (stretch-laid f first i (cond (eqb (length f % 512) 0) 0 33) known run r) Each.none
every-laid (suc k) f i first turn known e run t r =
    by (judge f i turn known) refl (every-laid k f (i + 1) (i + 1) Turn.any Known.lost (omega arith) (run_none f (i + 1) (omega arith)) (Turns.at_first refl) (Reads.unnamed (λ j a b. absurd (omega arith))))
    (λ turn' known'. every-laid k f (i + 1) first turn' known' (omega arith))
  where
    by : (j : Judged) → judge f i turn known ≡ j → Each Stretch (Laid f) (stretches_by k f (i + 1) (i + 1) Turn.any Known.lost)
        → ((turn : Turn) (known : Known) → Run f first (i + 1) → Turns f first (i + 1) turn → Reads f first (i + 1) known → Each Stretch (Laid f) (stretches_by k f (i + 1) first turn known))
        → Each Stretch (Laid f) (onward f first i known j (stretches_by k f (i + 1)))
    by (Judged.bad b) g anew on = Each.one (stretch-laid f first i b known run r) anew
    by (Judged.good now) g anew on =
        let j = good-so f i turn known now g in
        let n = number-so f first i turn t j.fine in
        let o = run.ordered in
        let z : i + 1 - 1 ≡ i = omega arith in
        on (Turn.only (number_at f i + 1)) now (run_more f first i run (omega arith) n.0 n.1) (Turns.behind (omega arith) (ap (λ (x : ℕ). number_at f x + 1) (sym z)))
        (reads_more f first i known now o (ending-most run) r j.taken)

pub all_laid : (f : List ℕ) → Each Stretch (Laid f) (stretches f)
unfolding stretches
all_laid f = every-laid (blocks f) f 0 0 Turn.any Known.lost (omega arith) (run_none f 0 (omega arith)) (Turns.at_first refl) (Reads.unnamed (λ j a b. absurd (omega arith)))
