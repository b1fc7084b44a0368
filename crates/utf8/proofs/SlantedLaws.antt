-- Laws of octets at a bit of each byte: what a loop over them keeps, which of their bits tell that they are printable, and that those passed leave a text
-- between two characters.
use Prim.Native.Nat.{ℕ, zero, suc, ◌+◌, ◌-◌, ◌*◌, ◌/◌, ◌%◌, ◌^◌, ◌<◌, ◌≤◌, min}
use mathlib.Core.Bool.{Bool, true, false, not, ◌||◌}
use mathlib.Core.Logic.{inl, inr, ⊎_elim}
use mathlib.Core.Path.{◌≡◌, refl, sym, ap, ◌∙◌}
use mathlib.Core.List.{List, [], ◌∷◌, ◌++◌}
use borrow.Author.Tests.{eqb-false, not-true, not-false}
use native.Mathlib.Nat.{add-zero}
use native.Mathlib.Numerals.{add-one}
use native.Mathlib.Omega.{arith}
use native.Mathlib.Decide.{dec_lt}
use lib.Dec.{eqb}
use lib.ListN.{length, get_or, take, drop}
use lib.Seq.{drop-cons, take_all}
use Rattle.utf8.specs.Rfc.{In}
use Rattle.utf8.specs.Text.{is_control, has_control, text_fault}
use Rattle.utf8.specs.Steps.{next, rows, run, number_of}
use Rattle.utf8.proofs.Look.{refuted, look-here}
use Rattle.utf8.proofs.Rows.{among, start-among}
use Rattle.utf8.proofs.Run.{run-nil, run-cons, run-append, run_more, run-fault}
use Rattle.utf8.proofs.ControlLaws.{control-past, control-append, cond-none, control-more}
use Rattle.utf8.specs.Slanted.{octet_at, octets_at, AllBytes, Printable, Passed, Whole, Went, Skipped}
use Rattle.utf8.specs.declared.State.{State}
use Rattle.utf8.specs.declared.State.TheVariants.{Start, OneLeft}

-- runs of printable octets
module _ {s : List ℕ} {k : ℕ} where
  pub printable-none : (i : ℕ) → Printable s k i i
  printable-none i = record { each = λ j h l. absurd (omega arith) }

  pub printable-both : {i j l : ℕ} → Printable s k i j → Printable s k j l → Printable s k i l
  printable-both {j = j} f g = record { each = λ n h m. elim (dec_lt n j) [ yes w ↦ f.each n h w | no w ↦ g.each n (omega arith) m ] }

  pub printable-one : (i : ℕ) → In 0x20 0x7F (octet_at s k i) → Printable s k i (i + 1)
  printable-one i e = record { each = λ j h l. let z : j ≡ i = omega arith in rw z e }

  -- one octet more, and up to 16 more
  pub passed_none : {from to : ℕ} → from ≤ to → Passed s k from to from
  passed_none {from} h = record { from_r = omega arith; r_to = h; printable = printable-none from }

  module _ {from to i : ℕ} (p : Passed s k from to i) where
    pub passed-both : {r : ℕ} → Passed s k i to r → Passed s k from to r
    passed-both q = record { from_r = let a = p.from_r in let b = q.from_r in omega arith; r_to = q.r_to; printable = printable-both p.printable q.printable }

    pub passed-one : (d : Bool) → i < to → (d ≡ true → In 0x20 0x7F (octet_at s k i)) → not d ≡ false → Passed s k from to (i + 1)
    passed-one d h f e = passed-both (record { from_r = omega arith; r_to = omega arith; printable = printable-one i (f (not-false d e)) })

    pub passed-sixteen : (at last : ℕ) (d : Bool) → i < to → 16 ≤ to - from → last ≡ to - 16 → at ≡ min i last → (d ≡ true → Printable s k at (at + 16)) → not d ≡ false → Passed s k from to (at + 16)
    passed-sixteen at last d h l m a f e = passed-both (record { from_r = omega arith; r_to = omega arith; printable = record { each = λ j m n. (f (not-false d e)).each j (omega arith) n } })

-- 16 octets, tested one after the other without a way out
module _ (s : List ℕ) (k i : ℕ) where
  abbrev pub SoFar : ℕ → Bool → Type 0
  SoFar j all = all ≡ true → Printable s k i (i + j)

  pub so-far-none : SoFar 0 true
  so-far-none e = rw add-zero (printable-none i)

  pub so-far-not : (j : ℕ) (all : Bool) → all ≡ false → SoFar j all
  so-far-not j all e t = refuted all t e

  pub so_far_more : (j x : ℕ) (all b then : Bool) → SoFar j all → (In 0x20 0x7F x → In 0x20 0x7F (octet_at s k (i + j))) → (b ≡ true → In 0x20 0x7F x) → not b ≡ false → then ≡ all → SoFar (j + 1) then
  so_far_more j x all b then f g h t e a =
      let z : i + j + 1 ≡ i + (j + 1) = omega arith in
      rw z at (printable-both (f (sym e ∙ a)) (printable-one (i + j) (g (h (not-false b t)))))

  pub so-far-all : (j : ℕ) (all : Bool) → j ≤ 16 → 16 ≤ j → SoFar j all → all ≡ true → Printable s k i (i + 16)
  so-far-all j all h l f e = let z : j ≡ 16 = omega arith in rw z at (f e)

-- octets that begin with their bytes are the bytes
octets-plain : (s : List ℕ) (i n : ℕ) → i + n ≤ length s → octets_at s 0 i n ≡ take n (drop i s)
unfolding octets_at octet_at
octets-plain s i zero h = refl
octets-plain s i (suc n) h = rw (drop-cons s i 0 (omega arith)) (ap (λ (l : List ℕ). get_or s i 0 ∷ l) (octets-plain s (suc i) n (omega arith)))

pub octets_all : (s : List ℕ) (n : ℕ) → n ≡ text_fault (octets_at s 0 0 (length s - 0)) → n ≡ text_fault s
octets_all s n e =
    let z : length s - 0 ≡ length s = omega arith in
    let l : octets_at s 0 0 (length s) ≡ s = octets-plain s 0 (length s) (omega arith) ∙ take_all (length s) s (omega arith) in
    rw (z, l) at e

-- the octet as the code puts it together
pub octet-whole : (s : List ℕ) (k i : ℕ) → k ≡ 0 → get_or s i 0 ≡ octet_at s k i
unfolding octet_at
octet-whole s k i z = rw z

module _ (s : List ℕ) (k i : ℕ) (z : k ≡ 0 → ⊥) where
  pub octet-joined : get_or s i 0 * 2 ^ k % 256 + get_or s (i + 1) 0 / 2 ^ (8 - k) ≡ octet_at s k i
  unfolding octet_at
  octet-joined = go k z
    where
      go : (k : ℕ) → (k ≡ 0 → ⊥) → get_or s i 0 * 2 ^ k % 256 + get_or s (i + 1) 0 / 2 ^ (8 - k) ≡ octet_at s k i
      go zero z = absurd (z refl)
      go (suc k) z = let e : 8 - suc k ≡ 7 - k = omega arith in rw (e, add-one)

-- what holds of each bit between a byte's first and its end holds of such a bit
pub seven : (P : ℕ → Type 0) → P 1 → P 2 → P 3 → P 4 → P 5 → P 6 → P 7 → (k : ℕ) → 0 < k → k < 8 → P k
seven P a b c d e f g zero l h = absurd (omega arith)
seven P a b c d e f g (suc zero) l h = a
seven P a b c d e f g (suc (suc zero)) l h = b
seven P a b c d e f g (suc (suc (suc zero))) l h = c
seven P a b c d e f g (suc (suc (suc (suc zero)))) l h = d
seven P a b c d e f g (suc (suc (suc (suc (suc zero))))) l h = e
seven P a b c d e f g (suc (suc (suc (suc (suc (suc zero)))))) l h = f
seven P a b c d e f g (suc (suc (suc (suc (suc (suc (suc zero))))))) l h = g
seven P a b c d e f g (suc (suc (suc (suc (suc (suc (suc (suc k)))))))) l h = absurd (omega arith)

module _ (x y : ℕ) (f : x < 256) (g : y < 256) where
  -- its two parts make a byte
  pub joined-fits : (k : ℕ) → 0 < k → k < 8 → x * 2 ^ k % 256 + y / 2 ^ (8 - k) < 256
  joined-fits = seven (λ k. x * 2 ^ k % 256 + y / 2 ^ (8 - k) < 256) (omega arith) (omega arith) (omega arith) (omega arith) (omega arith) (omega arith) (omega arith)

  joined-head : (k : ℕ) → 0 < k → k < 8 → k < 6 → In 0x20 0x7F (x * 2 ^ k % 256) → In 0x20 0x7F (x * 2 ^ k % 256 + y / 2 ^ (8 - k))
  joined-head =
      seven (λ k. k < 6 → In 0x20 0x7F (x * 2 ^ k % 256) → In 0x20 0x7F (x * 2 ^ k % 256 + y / 2 ^ (8 - k)))
      (λ l h. (omega arith, omega arith)) (λ l h. (omega arith, omega arith)) (λ l h. (omega arith, omega arith)) (λ l h. (omega arith, omega arith)) (λ l h. (omega arith, omega arith))
      (λ l h. absurd (omega arith)) (λ l h. absurd (omega arith))

  joined-first : (k : ℕ) → 0 < k → k < 8 → k < 6 → x / 2 ^ (7 - k) % 2 ≡ 0 → (x / 2 ^ (5 - k) % 4 ≡ 0 → ⊥) → In 0x20 0x7F (x * 2 ^ k % 256 + y / 2 ^ (8 - k))
  joined-first =
      seven (λ k. k < 6 → x / 2 ^ (7 - k) % 2 ≡ 0 → (x / 2 ^ (5 - k) % 4 ≡ 0 → ⊥) → In 0x20 0x7F (x * 2 ^ k % 256 + y / 2 ^ (8 - k)))
      (λ l a b. (omega arith, omega arith)) (λ l a b. (omega arith, omega arith)) (λ l a b. (omega arith, omega arith)) (λ l a b. (omega arith, omega arith)) (λ l a b. (omega arith, omega arith))
      (λ l a b. absurd (omega arith)) (λ l a b. absurd (omega arith))

  joined-second : (k : ℕ) → 6 ≤ k → k < 8 → x / 2 ^ (7 - k) % 2 ≡ 0 → (y / 2 ^ (13 - k) ≡ 0 → ⊥) → In 0x20 0x7F (x * 2 ^ k % 256 + y / 2 ^ (8 - k))
  joined-second k l h =
      seven (λ k. 6 ≤ k → x / 2 ^ (7 - k) % 2 ≡ 0 → (y / 2 ^ (13 - k) ≡ 0 → ⊥) → In 0x20 0x7F (x * 2 ^ k % 256 + y / 2 ^ (8 - k)))
      (λ l a b. absurd (omega arith)) (λ l a b. absurd (omega arith)) (λ l a b. absurd (omega arith)) (λ l a b. absurd (omega arith)) (λ l a b. absurd (omega arith))
      (λ l a b. (omega arith, omega arith)) (λ l a b. (omega arith, omega arith))
      k (omega arith) h l

-- which bits tell that an octet is printable
test-fails : (n : ℕ) → not (eqb n 0) ≡ true → n ≡ 0 → ⊥
test-fails n e = eqb-false n 0 (not-true (eqb n 0) e)

module _ (s : List ℕ) (bytes : AllBytes s) where
  pub octet-head : (k i : ℕ) → k < 6 → In 0x20 0x7F (get_or s i 0 * 2 ^ k % 256) → In 0x20 0x7F (octet_at s k i)
  unfolding octet_at
  octet-head zero i h e = let b = bytes i in (omega arith, omega arith)
  octet-head (suc k) i h e =
      let z : 8 - suc k ≡ 7 - k = omega arith in
      rw z at (joined-head (get_or s i 0) (get_or s (suc i) 0) (bytes i) (bytes (suc i)) (suc k) (omega arith) (omega arith) h e)

  pub octet-exact : (k i x : ℕ) → x ≡ octet_at s k i → In 0x20 0x7F x → In 0x20 0x7F (octet_at s k i)
  octet-exact k i x e h = rw (← e) h

  pub octet-first : (k i : ℕ) → k < 6 → get_or s i 0 / 2 ^ (7 - k) % 2 ≡ 0 → not (eqb (get_or s i 0 / 2 ^ (5 - k) % 4) 0) ≡ true → In 0x20 0x7F (octet_at s k i)
  unfolding octet_at
  octet-first zero i h a b = let c = bytes i in let d : get_or s i 0 / 2 ^ (5 - 0) % 4 ≡ 0 → ⊥ = test-fails _ b in (omega arith, omega arith)
  octet-first (suc k) i h a b =
      let z : 8 - suc k ≡ 7 - k = omega arith in
      rw z at (joined-first (get_or s i 0) (get_or s (suc i) 0) (bytes i) (bytes (suc i)) (suc k) (omega arith) (omega arith) h a (test-fails _ b))

  pub octet-second : (k i : ℕ) → 6 ≤ k → k < 8 → get_or s i 0 / 2 ^ (7 - k) % 2 ≡ 0 → not (eqb (get_or s (i + 1) 0 / 2 ^ (13 - k)) 0) ≡ true → In 0x20 0x7F (octet_at s k i)
  unfolding octet_at
  octet-second zero i l h a b = absurd (omega arith)
  octet-second (suc k) i l h a b =
      let z : 8 - suc k ≡ 7 - k = omega arith in
      rw z at (joined-second (get_or s i 0) (get_or s (suc i) 0) (bytes i) (bytes (suc i)) (suc k) l h a (test-fails _ (rw add-one at b)))

-- octets in two parts
octets-append : (s : List ℕ) (k i n m : ℕ) → octets_at s k i (n + m) ≡ octets_at s k i n ++ octets_at s k (i + n) m
unfolding octets_at
octets-append s k i zero m =
    let z : i + 0 ≡ i = add-zero i in
    let w : 0 + m ≡ m = omega arith in
    rw (z, w)
octets-append s k i (suc n) m =
    let e : suc i + n ≡ i + suc n = omega arith in
    let z : suc n + m ≡ suc (n + m) = omega arith in
    rw z (ap (λ (l : List ℕ). octet_at s k i ∷ l) (rw e at (octets-append s k (suc i) n m)))

module _ (s : List ℕ) (k : ℕ) where
  octets-parts : (i j l : ℕ) → i ≤ j → j ≤ l → octets_at s k i (l - i) ≡ octets_at s k i (j - i) ++ octets_at s k j (l - j)
  octets-parts i j l a b =
      let d : j - i + (l - j) ≡ l - i = omega arith in
      let e : i + (j - i) ≡ j = omega arith in
      rw (d, e) at (octets-append s k i (j - i) (l - j))

  octets-one : (i : ℕ) → octets_at s k i (i + 1 - i) ≡ octet_at s k i ∷ []
  unfolding octets_at
  octets-one i = let z : i + 1 - i ≡ 1 = omega arith in rw z

  octets-two : (i : ℕ) → octets_at s k i (i + 2 - i) ≡ octet_at s k i ∷ octet_at s k (i + 1) ∷ []
  unfolding octets_at
  octets-two i = let z : i + 2 - i ≡ 2 = omega arith in rw (z, add-one)

  -- whole characters without a control character: none, some and more, printable octets, and two octets that are one
  whole-none : (i : ℕ) → Whole s k i i
  unfolding octets_at run has_control
  whole-none i = let z : i - i ≡ 0 = omega arith in record { ends = rw z; free = rw z }

  whole-both : (i j l : ℕ) → i ≤ j → j ≤ l → Whole s k i j → Whole s k j l → Whole s k i l
  whole-both i j l a b p q =
      record {
        ends = rw (octets-parts i j l a b, run-append, p.ends) q.ends;
        free = rw (octets-parts i j l a b, control-append, p.free) q.free;
      }

  whole-one : (i : ℕ) → In 0x20 0x7F (octet_at s k i) → Whole s k i (i + 1)
  unfolding rows has_control
  whole-one i h =
      let e = start-among {lo = 0x00} {hi = 0x7F} {s = Start} (search among depth 12) (omega arith, h.1) in
      record {
        ends = rw (octets-one, run-cons, ← e, run-nil);
        free = rw (octets-one, ← control-past (octet_at s k i) h.0);
      }

  whole-printable : (n i : ℕ) → Printable s k i (i + n) → Whole s k i (i + n)
  whole-printable zero i p = rw add-zero (whole-none i)
  whole-printable (suc n) i p =
      let e : i + 1 + n ≡ i + suc n = omega arith in
      whole-both i (i + 1) (i + suc n) (omega arith) (omega arith)
      (whole-one i (p.each i (omega arith) (omega arith)))
      (rw e at (whole-printable n (i + 1) (record { each = λ j h l. p.each j (omega arith) (omega arith) })))

  pub went-none : (i to : ℕ) → i ≤ to → Went s k i to i
  went-none i to h = record { from_r = omega arith; r_to = h; whole = whole-none i }

  module _ {from to i : ℕ} (p : Went s k from to i) where
    pub went-both : {r : ℕ} → Went s k i to r → Went s k from to r
    went-both {r} q = record { from_r = let a = p.from_r in let b = q.from_r in omega arith; r_to = q.r_to; whole = whole-both from i r p.from_r q.from_r p.whole q.whole }

    pub went-passed : {r : ℕ} → Passed s k i to r → Went s k from to r
    went-passed {r} q =
        let a = q.from_r in
        let e : i + (r - i) ≡ r = omega arith in
        went-both (record { from_r = a; r_to = q.r_to; whole = rw e at (whole-printable (r - i) i (rw e q.printable)) })

  pub went-pair : (i to y : ℕ) → 2 ≤ to - i → In 0xC2 0xDF (octet_at s k i) → y ≡ octet_at s k (i + 1) → In 0x80 0xBF y → Went s k i to (i + 2)
  unfolding rows next has_control
  went-pair i to y h a g m =
      let e = start-among {lo = 0xC2} {hi = 0xDF} {s = OneLeft} (search among depth 12) a in
      let f = look-here 0x80 0xBF (octet_at s k (i + 1)) Start [] (omega arith) (omega arith) in
      record {
        from_r = omega arith;
        r_to = omega arith;
        whole = record {
          ends = rw (octets-two, run-cons, ← e, run-cons, ← f, run-nil);
          free = rw (octets-two, ← control-past (octet_at s k i) (omega arith), ← control-past (octet_at s k (i + 1)) (omega arith));
        };
      }

  -- where it tells of two octets, those are there, and passed too
  module _ (i to : ℕ) (d : Bool) (f : d ≡ true → Went s k i to (i + 2)) (e : not d ≡ false) where
    pub pair-there : i + 2 ≤ to
    pair-there = (f (not-false d e)).r_to

    pub went-more : {from j : ℕ} → Went s k from to j → Passed s k j to i → Went s k from to (i + 2)
    went-more p q = went-both (went-passed p q) (f (not-false d e))

  -- for the loop: the state after the octets from..i, and whether one of them is a control character
  module _ (from : ℕ) where
    abbrev pub Judged : ℕ → State → Bool → Type 0
    Judged i state found = (state ≡ run Start (octets_at s k from (i - from))) × (found ≡ has_control (octets_at s k from (i - from)))

    pub judged-none : Judged from Start false
    unfolding octets_at run has_control
    judged-none = let z : from - from ≡ 0 = omega arith in (rw z, rw z)

    pub judged-skip : (i to r : ℕ) (state : State) (found : Bool) → from ≤ i → Judged i state found → Skipped s k i to state r → Judged r state found
    judged-skip i to r state found l e w = ⊎_elim (λ z. rw z e) passed w.way
      where
        passed : (state ≡ Start) × Whole s k i r → Judged r state found
        passed p =
            let a = octets-parts from i r l w.from_r in
            let b : run Start (octets_at s k from (i - from)) ≡ Start = sym e.0 ∙ p.0 in
            (rw (a, run-append, b, p.1.ends) p.0, rw (a, control-append, p.1.free, cond-none) e.1)

    module _ (i x : ℕ) (state r : State) (found c : Bool) (l : from ≤ i) (e : Judged i state found) (f : x ≡ octet_at s k i) (g : r ≡ next state x) (h : c ≡ is_control x) where
      turn : octets_at s k from (i + 1 - from) ≡ octets_at s k from (i - from) ++ (x ∷ [])
      turn = rw (octets-parts from i (i + 1) l (omega arith), octets-one, f)

      pub judged-more : Judged (i + 1) r (found || c)
      judged-more = rw turn (run_more (octets_at s k from (i - from)) state e.0 x r g, control-more (octets_at s k from (i - from)) found e.1 x c h)

    -- at the end
    pub judged-all : (to i n : ℕ) (state : State) (found : Bool) → Judged i state found → i ≤ to → to ≤ i → n ≡ number_of state found → n ≡ text_fault (octets_at s k from (to - from))
    judged-all to i n state found e h l f = let z : i ≡ to = omega arith in rw (← z) (run-fault (octets_at s k from (i - from)) state e.0 found e.1 n f)

-- in a state
pub skipped-went : {s : List ℕ} {k i to r : ℕ} (state : State) → state ≡ Start → Went s k i to r → Skipped s k i to state r
skipped-went state e p = record { from_r = p.from_r; r_to = p.r_to; way = inr (e, p.whole) }

pub skipped-none : {s : List ℕ} {k i to : ℕ} (state : State) → i ≤ to → Skipped s k i to state i
skipped-none state h = record { from_r = omega arith; r_to = h; way = inl refl }
