-- Each way through an element's Start judged, and its head as a code.
use Prim.Native.Nat.{ℕ, suc, ◌+◌, ◌-◌, ◌*◌, ◌^◌, ◌<◌}
use mathlib.Core.Path.{◌≡◌, refl, sym}
use mathlib.Core.Bool.{Bool, true, false, not}
use mathlib.Core.List.{List}
use native.Mathlib.Omega.{arith}
use borrow.Author.Tests.{ltb-true, ltb-false, eqb-true, eqb-false, not-true, not-false}
use lib.Dec.{ltb, eqb}
use lib.ListN.{get_or}
use Rattle.numbers.specs.Refusal.{no_reading}
use Rattle.numbers.specs.Kind as kinds
use Rattle.numbers.specs.declared.refusal.Refusal.{Refusal}
use Rattle.numbers.specs.Refused.{number_of}
use Rattle.wire.specs.Bits.{digits}
use Rattle.wire.specs.Number.{code5}
use Rattle.wire.specs.Coded.{Codes}
use Rattle.wire.specs.declared.Coded.{Coded}
use Rattle.value.specs.Code.{bits_of}
use Rattle.value.proofs.WriteWays.{width_two}
use Rattle.model.specs.Modes.{lengths_is}
use Rattle.model.specs.declared.Lengths as lengths_t
use Rattle.model.specs.declared.Lengths.TheVariants as lv
use Rattle.model.specs.Write.{head_out, length_of, flag_in}
use Rattle.model.specs.Items.{Lengths}
use Rattle.writer_parts.specs.Notes.{Short, Flagged}
use Rattle.writer_parts.proofs.NoteWays.{five-few, five-under, flagged-five}
use Rattle.writer_parts.proofs.JudgingWays.{some, kind-fine, kind-faulty, word-first, word-second, unlike-p, unlike-q, like-both}
use Rattle.writer_parts.specs.Walk.{wanted, judged, KindJudged}
use Rattle.writer_parts.specs.declared.judging.Words.{Words}
use Rattle.writer_parts.specs.Heads.{FlagJudged}

-- flag_wrong
module _ (k : lengths_t.Lengths) (q : ℕ) where
  pub flag-never : k ≡ lv.Never → FlagJudged (lengths_is k) q (ltb 0 q)
  unfolding lengths_is flag_in
  flag-never e = rw e (record { wrong = λ t z. let h = ltb-true 0 q t in omega arith; fine = λ t. let h = ltb-false 0 q t in omega arith })

  pub flag-optional : k ≡ lv.Optional → FlagJudged (lengths_is k) q (ltb 1 q)
  unfolding lengths_is flag_in
  flag-optional e = rw e (record { wrong = λ t z. let h = ltb-true 1 q t in omega arith; fine = λ t. let h = ltb-false 1 q t in omega arith })

  pub flag-always : k ≡ lv.Always → FlagJudged (lengths_is k) q (not (eqb q 1))
  unfolding lengths_is flag_in
  flag-always e = rw e (record { wrong = λ t z. eqb-false q 1 (not-true (eqb q 1) t) (sym z); fine = λ t. sym (eqb-true q 1 (not-false (eqb q 1) t)) })

pub ruleset flag_wrong_ways = (flag-never, flag-optional, flag-always)

-- unlike_start
module _ (L : List ℕ) (at name : ℕ) where
  pub start-unlike : (q : ℕ) (e : Refusal) → KindJudged L at kinds.start (number_of e) → number_of e ≡ judged L at (wanted kinds.start name q)
  start-unlike q e h = h.wrong (some e) name q

  module _ (h : KindJudged L at kinds.start 0) (w : Words) (x : w.p ≡ get_or L (4 * at + 1) 0) (y : w.q ≡ get_or L (4 * at + 2) 0) where
    pub start-name : (q : ℕ) → (name ≡ w.p → ⊥) → no_reading ≡ judged L at (wanted kinds.start name q)
    start-name q f = unlike-p L at kinds.start name q h w x y f

    module _ (e : name ≡ w.p) (k : Lengths) (r : Bool) (f : FlagJudged k w.q r) where
      pub start-flag : r ≡ true → no_reading ≡ judged L at (wanted kinds.start name (flag_in k (get_or L (4 * at + 2) 0)))
      start-flag t = rw (← y) (unlike-q L at kinds.start name (flag_in k w.q) h w x y e (f.wrong t))

      pub start-like : r ≡ false → 0 ≡ judged L at (wanted kinds.start name (flag_in k (get_or L (4 * at + 2) 0)))
      start-like t = rw (← y) (like-both L at kinds.start name (flag_in k w.q) h w x y e (f.fine t))

pub ruleset start_ways = (kind-fine, kind-faulty, word-first, word-second, start-unlike, start-name, start-flag, start-like)

-- head
module _ (lengths : lengths_t.Lengths) (q n : ℕ) where
  pub head_never : lengths ≡ lv.Never → Short 41 (record { size = 0; bits = 0 }) (head_out (lengths_is lengths) (length_of q n))
  unfolding head_out lengths_is digits
  head_never m = rw m (record { code = record { is = refl; low = omega arith }; few = omega arith })

  pub head-off : lengths ≡ lv.Optional → q ≡ 0 → Short 41 (record { size = 1; bits = 0 }) (head_out (lengths_is lengths) (length_of q n))
  unfolding head_out lengths_is bits_of
  head-off m q0 = rw (m, q0, width_two) (record { code = record { is = refl; low = omega arith }; few = omega arith })

  pub head-bare : lengths ≡ lv.Always → q ≡ 0 → Short 41 (record { size = 0; bits = 0 }) (head_out (lengths_is lengths) (length_of q n))
  unfolding head_out lengths_is digits
  head-bare m q0 = rw (m, q0) (record { code = record { is = refl; low = omega arith }; few = omega arith })

  module _ (q1 : q ≡ 0 → ⊥) (small : n < 2 ^ 32) (c : Coded) (e : Codes c (code5 n)) where
    next : q ≡ suc (q - 1)
    next = omega arith

    pub head-long : lengths ≡ lv.Always → Short 41 c (head_out (lengths_is lengths) (length_of q n))
    unfolding head_out lengths_is bits_of
    head-long m = rw (m, next) (record { code = e; few = omega (arith, five-few n small c e) })

    pub head_on : lengths ≡ lv.Optional → (r : Coded) → Flagged 1 c r → Short 41 r (head_out (lengths_is lengths) (length_of q n))
    unfolding head_out lengths_is bits_of
    head_on m r f = rw (m, next, width_two) (flagged-five n small c e 1 r f)

pub ruleset head_ways = (head_never, head-off, head-bare, head-long, head_on, five-few, five-under)
