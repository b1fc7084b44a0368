-- The ways through the functions: what each answers, by what it met.
use Prim.Native.Nat.{ℕ, zero, suc, ◌+◌, ◌-◌, ◌*◌, ◌≤◌, ◌<◌, ◌/◌}
use mathlib.Core.Path.{◌≡◌, refl, sym, ap, ◌∙◌}
use Rattle.std.specs.Prelude.{Option, Some, None}
use mathlib.Core.List.{List, [], ◌∷◌}
use native.Mathlib.Omega.{arith}
use native.Mathlib.Numerals.{add-one}
use borrow.Author.Tests.{eq-eqb, ne_eqb}
use lib.ListN.{length, get_or, set, take, drop, drop_of_length-le}
use lib.Seq.{get_or-set_same, get_or-set_other, get_or-take, get_or-drop, drop-cons, drop-drop}
use Rattle.std.specs.Simd.{first_chunks}
use Rattle.model.specs.Model.{Event}
use Rattle.report.specs.Eights.{number_from}
use Rattle.report.specs.Places.{numbers, other, lines}
use Rattle.report.specs.Report.{Sort, at, line_from, line_of, sort_of, outer, line_for, open_after}
use Rattle.report.specs.Report.Sort.{begins, blank, ends, inside}
use Rattle.report.specs.Sums.{Sum, within, passed, and_then, counted_in, counted_then_in, counts_in, numbers_in, sum_of, event_of, events_of, events_in, stack_of, Line, Lines}
use Rattle.report.proofs.EightLaws.{number-at}

-- numbers of a report
pub at-way : (s : List ℕ) (i r : ℕ) → i < numbers → r ≡ number_from s (8 * i) → r ≡ at (numbers_in s) i
at-way s i r h e = e ∙ sym (number-at numbers s i h)

-- a name's line
pub line-free : (R : List ℕ) (name left i times : ℕ) → 0 < left → times ≡ at R (i + 1) → times ≡ 0 → i ≡ line_from R name left i
unfolding line_from
line-free R name zero i times h e z = absurd (omega arith)
line-free R name (suc n) i times h e z = rw (eq-eqb (at R (i + 1)) 0 (sym e ∙ z))

pub line-named : (R : List ℕ) (name left i times is : ℕ) → 0 < left → times ≡ at R (i + 1) → (times ≡ 0 → ⊥) → is ≡ at R i → is ≡ name → i ≡ line_from R name left i
unfolding line_from
line-named R name zero i times is h e z f g = absurd (omega arith)
line-named R name (suc n) i times is h e z f g = rw (ne_eqb (at R (i + 1)) 0 (λ q. z (e ∙ q)), eq-eqb (at R i) name (sym f ∙ g))

pub line-next : (R : List ℕ) (name left i times is : ℕ) → 0 < left → times ≡ at R (i + 1) → (times ≡ 0 → ⊥) → is ≡ at R i → (is ≡ name → ⊥)
    → line_from R name left i ≡ line_from R name (left - 1) (i + 4)
unfolding line_from
line-next R name zero i times is h e z f g = absurd (omega arith)
line-next R name (suc n) i times is h e z f g =
    let m : suc n - 1 ≡ n = omega arith in
    rw (m, ne_eqb (at R (i + 1)) 0 (λ q. z (e ∙ q)), ne_eqb (at R i) name (λ q. g (f ∙ q)))

pub line-none : (R : List ℕ) (name left i : ℕ) → left ≤ 0 → other ≡ line_from R name left i
unfolding line_from
line-none R name zero i h = refl
line-none R name (suc n) i h = absurd (omega arith)

-- the stack after an event
stack-under : (a : List ℕ) (d i v : ℕ) → d ≤ i → stack_of (set a i v) d ≡ stack_of a d
unfolding stack_of
stack-under a zero i v h = refl
stack-under a (suc d) i v h =
    rw (get_or-set_other a i d v 0 (λ e. omega arith), stack-under a d i v (omega arith))

pub opens-more : (a : List ℕ) (d line : ℕ) → d < length a → stack_of (set a d line) (d + 1) ≡ line ∷ stack_of a d
unfolding stack_of
opens-more a d line h = rw (add-one d, get_or-set_same a d line 0 h, stack-under a d d line (omega arith))

stack-length : (a : List ℕ) (d : ℕ) → length (stack_of a d) ≡ d
unfolding stack_of
stack-length a zero = refl
stack-length a (suc d) = ap suc (stack-length a d)

pub stack-below : (a : List ℕ) (d n : ℕ) (l : List ℕ) → stack_of a d ≡ l → length l < n → d < n
stack-below a d n l e h = let s = stack-length a d in let k = ap length e in omega arith

pub opens-one : (s : Sort) (i : ℕ) (l l' : List ℕ) → l' ≡ open_after s i l → length l' ≤ length l + 1
unfolding open_after outer
opens-one begins i l l' e = rw e (omega arith)
opens-one blank i l l' e = rw e (omega arith)
opens-one ends i [] l' e = rw e (omega arith)
opens-one ends i (x ∷ l) l' e = rw e (omega arith)
opens-one inside i l l' e = rw e (omega arith)

-- the lines of a stack stay lines
pub lines_after : (s : Sort) (i : ℕ) (l : List ℕ) → Line i → Lines l → Lines (open_after s i l)
unfolding open_after outer
lines_after begins i l h k = (h, k)
lines_after blank i l h k = k
lines_after ends i [] h k = tt
lines_after ends i (x ∷ l) h k = k.1
lines_after inside i l h k = k

-- the loop over the events: as it begins, turns and ends
events-next : (E : List (List ℕ)) (i : ℕ) → i < length E → events_of (drop i E) ≡ event_of (get_or E i []) ∷ events_of (drop (i + 1) E)
unfolding events_of
events-next E i h = rw (drop-cons E i [] h, add-one i) refl

module _ (E : List (List ℕ)) (i : ℕ) (S : List ℕ) (s : List ℕ) (X : Sum) (so_far : counts_in (events_of (drop i E)) S (numbers_in s) ≡ X) where
  pub events-ended : length E ≤ i → within (numbers_in s) ≡ X
  unfolding counts_in events_of
  events-ended h = rw (drop_of_length-le E h) at so_far

  module _ (y : Sort) (name bits line : ℕ) (r : Option (Unit {0})) (t : List ℕ) (h : i < length E) (sorted : y ≡ sort_of (event_of (get_or E i [])).kind) (named : name ≡ (event_of (get_or E i [])).p)
      (sized : bits ≡ (event_of (get_or E i [])).bits) (found : line ≡ line_for y name S (numbers_in s)) (sum : sum_of r t ≡ counted_in y name bits line (numbers_in s)) where
    one : X ≡ and_then (sum_of r t) (counts_in (events_of (drop (i + 1) E)) (open_after y line S))
    unfolding counts_in counted_then_in
    one = rw (sum, found, sorted, named, sized) (sym so_far ∙ ap (λ (L : List Event). counts_in L S (numbers_in s)) (events-next E i h))

    pub events-stopped : r ≡ None → passed ≡ X
    unfolding and_then
    events-stopped e = rw e at (sym one)

    pub events-again : (u : Unit {0}) (S' : List ℕ) → r ≡ Some u → S' ≡ open_after y line S → counts_in (events_of (drop (i + 1) E)) S' (numbers_in t) ≡ X
    unfolding and_then
    events-again u S' e f = rw f (rw e at (sym one))

-- words by fours are the events from event i on
events-by-fours : (w : List ℕ) (i n : ℕ) → events_of (first_chunks 4 n (drop (4 * i) w)) ≡ events_in w i n
unfolding events_of events_in
events-by-fours w i zero = refl
events-by-fours w i (suc n) =
    let on : drop 4 (drop (4 * i) w) ≡ drop (4 * (i + 1)) w = let e : 4 * i + 4 ≡ 4 * (i + 1) = omega arith in drop-drop 4 (4 * i) w ∙ ap (λ (k : ℕ). drop k w) e in
    rw (word 0 (4 * i) (omega arith) (omega arith), word 1 (4 * i + 1) (omega arith) refl, word 2 (4 * i + 2) (omega arith) refl, word 3 (4 * i + 3) (omega arith) refl, on, events-by-fours w (i + 1) n)
  where
    word : (j k : ℕ) → j < 4 → 4 * i + j ≡ k → get_or (take 4 (drop (4 * i) w)) j 0 ≡ get_or w k 0
    word j k h e = get_or-take 4 (drop (4 * i) w) j 0 h ∙ get_or-drop (4 * i) w j 0 ∙ ap (λ (m : ℕ). get_or w m 0) e

pub events-begin : (w : List ℕ) (E : List (List ℕ)) (R : List ℕ) → E ≡ first_chunks 4 (length w / 4) w → counts_in (events_of E) [] R ≡ counts_in (events_in w 0 (length w / 4)) [] R
events-begin w E R e = ap (λ (L : List Event). counts_in L [] R) (ap events_of e ∙ events-by-fours w 0 (length w / 4))

-- the same of a search that has passed k lines
module _ (R : List ℕ) (name k : ℕ) (h : k < lines) (so_far : line_of R name ≡ line_from R name (lines - k) (72 + 4 * k)) where
  pub line-free-is : at R (72 + 4 * k + 1) ≡ 0 → 72 + 4 * k ≡ line_of R name
  line-free-is e = line-free R name (lines - k) (72 + 4 * k) (at R (72 + 4 * k + 1)) (omega arith) refl e ∙ sym so_far

  pub line-named-is : (at R (72 + 4 * k + 1) ≡ 0 → ⊥) → at R (72 + 4 * k) ≡ name → 72 + 4 * k ≡ line_of R name
  line-named-is z e = line-named R name (lines - k) (72 + 4 * k) (at R (72 + 4 * k + 1)) (at R (72 + 4 * k)) (omega arith) refl z refl e ∙ sym so_far

  pub line-again : (at R (72 + 4 * k + 1) ≡ 0 → ⊥) → (at R (72 + 4 * k) ≡ name → ⊥) → line_of R name ≡ line_from R name (lines - (k + 1)) (72 + 4 * (k + 1))
  line-again z e =
      let l : lines - k - 1 ≡ lines - (k + 1) = omega arith in
      let m : 72 + 4 * k + 4 ≡ 72 + 4 * (k + 1) = omega arith in
      so_far ∙ line-next R name (lines - k) (72 + 4 * k) (at R (72 + 4 * k + 1)) (at R (72 + 4 * k)) (omega arith) refl z refl e ∙ rw (l, m)

pub line-none-is : (R : List ℕ) (name k : ℕ) → lines ≤ k → line_of R name ≡ line_from R name (lines - k) (72 + 4 * k) → other ≡ line_of R name
line-none-is R name k h so_far = line-none R name (lines - k) (72 + 4 * k) (omega arith) ∙ sym so_far
