-- Each way to the rows that a row holds.
use Prim.Native.Nat.{ℕ, ◌+◌, ◌-◌, ◌<◌}
use mathlib.Core.Path.{◌≡◌, refl, sym, ap, ◌∙◌}
use mathlib.Core.Logic.{inl, inr}
use mathlib.Core.List.{List, []}
use native.Mathlib.Omega.{arith}
use Rattle.std.specs.Prelude.{Ok, Err}
use Rattle.numbers.specs.Kind as kinds
use Rattle.numbers.specs.Refused.{number_of}
use Rattle.numbers.specs.declared.refusal.Refusal.{Refusal}
use Rattle.numbers.specs.declared.refusal.Fault.{Fault}
use Rattle.wire.specs.Res.{got, fault}
use Rattle.wire.proofs.Res.{then, then-fault}
use Rattle.wire.specs.Answer.{Read, read_is}
use Rattle.wire.specs.declared.Bits.{Bits}
use Rattle.value.specs.Code.{Code, choice, choice_at, code_at}
use Rattle.value.specs.Simple.{plain, times_code, simple_at}
use Rattle.value.specs.Answer.{code_is}
use Rattle.value.specs.declared.Code as code·code
use Rattle.table.specs.Views.{row_is}
use Rattle.table.specs.declared.answers.Particle as code·particle
use Rattle.table.specs.declared.answers.Particle.TheVariants.{Element, Sequence, Choice, Occurs}
use Rattle.model.specs.Model.{event, Answer}
use Rattle.model.specs.Read.{after, stored}
use Rattle.model.proofs.Steps as steps-laws
use Rattle.reader_parts.specs.Out.{Step, room_of, step_view, outcome, Stores}
use Rattle.reader_parts.specs.declared.Cursor.{Cursor}
use Rattle.reader_parts.proofs.Laws.{after_stop, after-go}
use Rattle.reader.proofs.Asked.{branch_row}
use Rattle.reader.proofs.EnterWays.{code-fault, code_got}
use Rattle.reader.specs.Meaning.{Holds}
use Rattle.reader.specs.Groups.{Group, run_by, Reading, group_at, group_view, Placed, Groups}

-- rows, case by case
module _ (s : Step) (first jump count : ℕ) where
  pub run-go : (c : Cursor) → s ≡ Ok c → Ok record { first = first; step = jump; count = count; cursor = c } ≡ run_by s first jump count
  run-go c g = rw g

  pub run-refuse : (e : Fault Bits) → s ≡ Err e → Err e ≡ run_by s first jump count
  run-refuse e g = rw g

pub ruleset run-ways = (run-go, run-refuse)

-- the code of a branch or of a count, as the code answers it
module _ (r : Read) (k : Code) (b : ℕ → ℕ) (wall at : ℕ) (e : read_is r ≡ code_at k b wall at) where
  number-fault : (n : Refusal) → r ≡ Err n → simple_at (plain k) b wall at ≡ fault (number_of n)
  unfolding simple_at read_is
  number-fault n g = then-fault _ (sym e ∙ rw g)

  number-value : (v : ℕ) (q : Bits) → r ≡ Ok (v, q) → simple_at (plain k) b wall at ≡ got (v, [], q.0)
  unfolding simple_at read_is
  number-value v q g = then _ (sym e ∙ rw g) refl

module _ (b : ℕ → ℕ) (wall : ℕ) (c : Cursor) (E : List ℕ) (row : code·particle.Particle) where
  abbrev at : ℕ
  at = c.at.0

  abbrev Grouped : Group → List ℕ → Type 0
  Grouped r E' = Groups (row_is row) b wall c E r E'

  -- an event is stored, then rows are read
  stored-run : (K : Reading) (T π : List ℕ) (kind v next : ℕ) (o : Step) (E₁ : List ℕ) → Stores kind v 0 next c E o E₁ → (first jump count : ℕ)
      → group_view K (run_by o first jump count) π E₁ T
      ≡ outcome (after (room_of E T c) (stored (room_of E T c) π at (event kind v 0 (next - at)) [] next) (λ u p. K first jump count u p)) c π E T
  unfolding group_view step_view
  stored-run K T π kind v next o E₁ h first jump count = go o refl
    where
      go : (s : Step) → o ≡ s → group_view K (run_by s first jump count) π E₁ T
          ≡ outcome (after (room_of E T c) (stored (room_of E T c) π at (event kind v 0 (next - at)) [] next) (λ u p. K first jump count u p)) c π E T
      go (Ok z) i = after-go o π E₁ T _ c π E T (h.says T π) z i π (λ u ρ p. K first jump count u p)
      go (Err f) i = sym (ap (λ (s : Step). step_view s π E₁ T) i) ∙ after_stop o π E₁ T _ c π E T (h.says T π) f i π _ _

  pub group-none : (r : Group) (E' : List ℕ) (name ty own : ℕ) → row ≡ Element name ty own → Holds (row_is row) → Grouped r E'
  group-none r E' name ty own g h = absurd (rw g at h)

  pub group-sequence : (r : Group) (first n : ℕ) → row ≡ Sequence first n → r ≡ run_by (Ok c) first 1 n → Grouped r E
  unfolding group_view group_at
  group-sequence r first n g j = rw (j, g) (record { says = λ K T π. refl; placed = λ types P f. inl (refl, f) })

  -- a choice
  module _ (first n : ℕ) (g : row ≡ Choice first n) (r : Read) (e : read_is r ≡ choice_at b n wall at) where
    choice-here : read_is r ≡ code_at (choice n) b wall at
    unfolding code_at
    choice-here = e

    pub group-choice-fault : (m : Refusal) → r ≡ Err m → Grouped (Err record { why = m; at = c.at }) E
    unfolding group_view group_at outcome
    group-choice-fault m i = rw g (record {
      says = λ K T π. ap (λ (o : Answer). outcome o c π E T) (sym (code-fault _ π at _ (number_of m) (steps-laws.item-picked b wall at n ∙ number-fault r (choice n) b wall at choice-here m i)));
      placed = λ types P f. tt;
    })

    pub group-choice : (v : ℕ) (q : Bits) (o : Step) (E₁ : List ℕ) (w : Group) → r ≡ Ok (v, q) → Stores kinds.pick v 0 q.0 c E o E₁ → w ≡ run_by o (first + v) 0 1 → Grouped w E₁
    unfolding group_at
    group-choice v q o E₁ w i h j = rw (j, g) (record {
      says = λ K T π.
          stored-run K T π kinds.pick v q.0 o E₁ h (first + v) 0 1
          ∙ ap (λ (o : Answer). outcome o c π E T) (sym (code_got _ π at _ _ (steps-laws.item-picked b wall at n ∙ number-value r (choice n) b wall at choice-here v q i)));
      placed = λ types P f. placed o P (branch_row P first n b wall at r v q f e i);
    })
      where
        placed : (s : Step) (P : ℕ) → first + v < P → Placed P (run_by s (first + v) 0 1)
        placed (Ok z) P f = inr (refl, f)
        placed (Err m) P f = tt

  -- an occurs row
  module _ (child least most : ℕ) (g : row ≡ Occurs child least most) (k : code·code.Code) (f : code_is k ≡ times_code least most) (r : Read) (e : read_is r ≡ code_at (code_is k) b wall at) where
    times-here : read_is r ≡ code_at (times_code least most) b wall at
    times-here = rw f at e

    pub group-occurs-fault : (m : Refusal) → r ≡ Err m → Grouped (Err record { why = m; at = c.at }) E
    unfolding group_view group_at outcome
    group-occurs-fault m i = rw g (record {
      says = λ K T π. ap (λ (o : Answer). outcome o c π E T) (sym (code-fault _ π at _ (number_of m) (steps-laws.item-counted b wall at least most ∙ number-fault r (times_code least most) b wall at times-here m i)));
      placed = λ types P f. tt;
    })

    pub group-occurs : (v : ℕ) (q : Bits) (o : Step) (E₁ : List ℕ) (w : Group) → r ≡ Ok (v, q) → Stores kinds.times v 0 q.0 c E o E₁ → w ≡ run_by o child 0 v → Grouped w E₁
    unfolding group_at
    group-occurs v q o E₁ w i h j = rw (j, g) (record {
      says = λ K T π.
          stored-run K T π kinds.times v q.0 o E₁ h child 0 v
          ∙ ap (λ (o : Answer). outcome o c π E T) (sym (code_got _ π at _ _ (steps-laws.item-counted b wall at least most ∙ number-value r (times_code least most) b wall at times-here v q i)));
      placed = λ types P f. placed o P f;
    })
      where
        placed : (s : Step) (P : ℕ) → child < P → Placed P (run_by s child 0 v)
        placed (Ok z) P f = inr (refl, f)
        placed (Err m) P f = tt

-- a branch's number fits a word
pub branch-holds : (row : code·particle.Particle) (first n : ℕ) (b : ℕ → ℕ) (wall at : ℕ) (r : Read) (v : ℕ) (q : Bits) → Holds (row_is row) → row ≡ Choice first n
    → read_is r ≡ choice_at b n wall at → r ≡ Ok (v, q) → first + v < 4294967296
branch-holds row first n b wall at r v q h g e i =
    let k : first + n < 4294967296 = rw g at h in
    let f : first + v < first + n = branch_row (first + n) first n b wall at r v q (omega arith) e i in
    omega arith

pub ruleset group_ways = (group-none, group-sequence, group-choice-fault, group-choice, group-occurs-fault, group-occurs, branch-holds)
