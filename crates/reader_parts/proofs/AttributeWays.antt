-- Each way through a part of what stands before an element's rows, and through all of them: what is left.
use Prim.Native.Nat.{ℕ, zero, suc, ◌+◌, ◌-◌, ◌<◌, ◌≤◌}
use mathlib.Core.Path.{◌≡◌, refl, sym, ap, ◌∙◌}
use mathlib.Core.List.{List, []}
use mathlib.Core.Bool.{Bool, true, false}
use native.Mathlib.Omega.{arith}
use lib.Dec.{ltb}
use borrow.Author.Tests.{ltb-true, ltb-false}
use Rattle.numbers.specs.Kind as kinds
use Rattle.wire.specs.declared.Bits.{Bits}
use Rattle.wire.specs.Res.{got, fault}
use Rattle.wire.proofs.Res.{then, then-fault}
use Rattle.wire.specs.Answer.{Read, read_is}
use Rattle.wire.proofs.ReadWays.{read-value, read-refuse}
use Rattle.value.specs.Code.{choice, choice_at, code_at}
use Rattle.value.specs.Simple.{plain, simple_at}
use Rattle.table.specs.First.Verdict.{right}
use Rattle.table.specs.Valid.{verdict}
use Rattle.table.specs.Words.{types_in, attributes_in}
use Rattle.table.specs.Inside.{TypeInside, AttributeInside}
use Rattle.table.specs.Rows.{table_of, attribute_of, attributes_from, attributes_of}
use Rattle.table.specs.Views.{attribute_is, content_is, Spans}
use Rattle.table.specs.declared.answers.Content as of-content
use Rattle.table.specs.declared.answers.Content.TheVariants.{Empty, Simple, Particles}
use Rattle.table.specs.declared.answers.Attribute as of-table
use Rattle.table.specs.declared.answers.Span as of-span
use Rattle.table.proofs.Laws.{span-ok, counts-ok}
use Rattle.table.proofs.RowsInside.{type-inside, attribute-inside}
use Rattle.model.specs.Model.{event, Plan, Answer, value, maybe, attribute, attributes}
use Rattle.model.specs.Model.Plan.{done}
use Rattle.model.specs.Items.{Lengths}
use Rattle.model.specs.Read.{Room, after, code, stored, read}
use Rattle.model.proofs.Join.{after-done, attribute-join, read_join}
use Rattle.model.specs.Steps as steps
use Rattle.model.proofs.Steps as steps-laws
use Rattle.reader_parts.specs.declared.Cursor.{Cursor}
use Rattle.std.specs.Prelude.{Ok, Err}
use Rattle.numbers.specs.Refused.{number_of}
use Rattle.numbers.specs.declared.refusal.Refusal.{Refusal}
use Rattle.numbers.specs.declared.refusal.Fault.{Fault}
use Rattle.reader_parts.specs.declared.attributes.Due.{Due}
use Rattle.reader_parts.specs.declared.attributes.Lead.{Lead}
use Rattle.reader_parts.specs.declared.attributes.Lead.TheVariants as lead
use Rattle.reader_parts.specs.Out.{Step, room_of, step_view, outcome, own_value, Reads, Stores}
use Rattle.reader_parts.specs.Parts.{own_lead, part_at, before_rows, lead_view, Leads, LeadNotes, Finishes}
use Rattle.reader_parts.proofs.Laws.{after_stop, after-go, outcome-none}

-- the flag
module _ (b : ℕ → ℕ) (wall at : ℕ) (r : Read) (e : read_is r ≡ choice_at b 2 wall at) where
  pub flag-refuse : (n : Refusal) → r ≡ Err n → simple_at (plain (choice 2)) b wall at ≡ fault (number_of n)
  unfolding simple_at code_at
  flag-refuse n g = then-fault _ (read-refuse e g)

  pub flag-value : (v : ℕ) (next : Bits) → r ≡ Ok (v, next) → simple_at (plain (choice 2)) b wall at ≡ got (v, [], next.0)
  unfolding simple_at code_at
  flag-value v next g = then _ (read-value e g) refl

-- its value, where it is present
abbrev pub Given : of-table.Attribute → ℕ → Plan
Given a v = maybe v (value a.simple a.b a.c done) done

-- an attribute's event, and its value is next
module _ (c : Cursor) (E : List ℕ) (a : of-table.Attribute) (v next : ℕ) (s : Step) (E' : List ℕ) (h : Stores kinds.attribute a.name v next c E s E') where
  pub noted-stop : (n : Fault Bits) → s ≡ Err n → LeadNotes v next (attribute_is a) c E (lead.Refuse n) E'
  unfolding lead_view step_view
  noted-stop n i = record { says = λ b wall mode held T π. sym (ap (λ (x : Step). step_view x π E' T) i) ∙ after_stop s π E' T _ c π E T (h.says T π) n i π _ _ }

  module _ (d : Cursor) (i : s ≡ Ok d) (b : ℕ → ℕ) (wall : ℕ) (mode : Lengths) (held : ℕ → Bool) (T π : List ℕ) where
    noted-next : (k : ℕ) → v ≡ k → outcome (read b mode held (Given a k) (room_of E' T d) π wall d.at.0) d π E' T
        ≡ outcome (after (room_of E T c) (stored (room_of E T c) π c.at.0 (event kinds.attribute a.name v (next - c.at.0)) [] next) (λ u p. read b mode held (Given a v) u π wall p)) c π E T
    noted-next k z = rw (← z) (after-go s π E' T _ c π E T (h.says T π) d i π (λ u ρ p. read b mode held (Given a v) u ρ wall p))

  pub noted-absent : (d : Cursor) → s ≡ Ok d → v ≡ 0 → LeadNotes v next (attribute_is a) c E (lead.Go d) E'
  unfolding lead_view step_view
  noted-absent d i z = record {
    says = λ b wall mode held T π.
        outcome-none d π E' T
        ∙ ap (λ (o : Answer). outcome o d π E' T) (sym (steps-laws.maybe-absent b mode held (table_of []) (room_of E' T d) π wall d.at.0 (attribute_is a)))
        ∙ noted-next d i b wall mode held T π 0 z;
  }

  pub noted-present : (d : Cursor) → s ≡ Ok d → (v ≡ 0 → ⊥) → LeadNotes v next (attribute_is a) c E (lead.Value record { cursor = d; simple = a.simple; x = a.b; y = a.c }) E'
  unfolding lead_view
  noted-present d i z = record {
    says = λ b wall mode held T π.
        ap (λ (o : Answer). outcome o d π E' T) (sym (steps-laws.maybe-present b mode held (table_of []) (room_of E' T d) π wall d.at.0 (v - 1) (attribute_is a)))
        ∙ noted-next d i b wall mode held T π (suc (v - 1)) (omega arith);
  }

pub ruleset noted_ways = (noted-stop, noted-absent, noted-present)

-- an attribute
abbrev pub One : of-table.Attribute → Plan
One a = attribute a.must (attribute_is a) done

module _ (b : ℕ → ℕ) (wall : ℕ) (c : Cursor) (E : List ℕ) (a : of-table.Attribute) where
  pub one-required : (l : Lead) (E' : List ℕ) → a.must ≡ true → LeadNotes 1 c.at.0 (attribute_is a) c E l E' → Leads (One a) b wall c E l E'
  unfolding maybe
  one-required l E' m y = record {
    says = λ mode held T π.
        y.says b wall mode held T π ∙ ap (λ (o : Answer). outcome o c π E T) (sym (steps-laws.attribute-required b mode held (table_of []) (room_of E T c) π wall c.at.0 (attribute_is a) m));
  }

  module _ (m : a.must ≡ false) (r : Read) (e : read_is r ≡ choice_at b 2 wall c.at.0) where
    optional-is : (mode : Lengths) (held : ℕ → Bool) (T π : List ℕ) → read b mode held (One a) (room_of E T c) π wall c.at.0
        ≡ code (simple_at (plain (choice 2)) b wall c.at.0) π c.at.0
        (λ (v, ts, q). after (room_of E T c) (stored (room_of E T c) π c.at.0 (event kinds.attribute a.name v (q - c.at.0)) ts q) (λ u p. read b mode held (Given a v) u π wall p))
    optional-is mode held T π =
        steps-laws.attribute-optional b mode held (table_of []) (room_of E T c) π wall c.at.0 (attribute_is a) m ∙ rw (steps-laws.item-optional b wall c.at.0 a.name)

    pub one-refuse : (n : Refusal) → r ≡ Err n → Leads (One a) b wall c E (lead.Refuse (record { why = n; at = c.at })) E
    unfolding lead_view outcome code
    one-refuse n g = record { says = λ mode held T π. rw (optional-is mode held T π, flag-fault) }
      where
        flag-fault : simple_at (plain (choice 2)) b wall c.at.0 ≡ fault (number_of n)
        flag-fault = flag-refuse b wall c.at.0 r e n g

    pub one-flagged : (v : ℕ) (next : Bits) (l : Lead) (E' : List ℕ) → r ≡ Ok (v, next) → LeadNotes v next.0 (attribute_is a) c E l E' → Leads (One a) b wall c E l E'
    unfolding code
    one-flagged v next l E' g y = record { says = λ mode held T π. y.says b wall mode held T π ∙ sym (rw (optional-is mode held T π, flag-got)) }
      where
        flag-got : simple_at (plain (choice 2)) b wall c.at.0 ≡ got (v, [], next.0)
        flag-got = flag-value b wall c.at.0 r e v next g

pub ruleset one-ways = (one-required, one-refuse, one-flagged)

-- the value that a content is
pub own-leads : (b : ℕ → ℕ) (wall : ℕ) (c : Cursor) (E : List ℕ) (k : of-content.Content) → Leads (own_value (content_is k)) b wall c E (own_lead c k) E
unfolding own_value lead_view step_view read
own-leads b wall c E Empty = record { says = λ mode held T π. outcome-none c π E T }
own-leads b wall c E (Simple kind x y) = record { says = λ mode held T π. refl }
own-leads b wall c E (Particles i) = record { says = λ mode held T π. outcome-none c π E T }

-- a part up to its value
module _ (l : List ℕ) (t row : ℕ) (b : ℕ → ℕ) (wall : ℕ) (c : Cursor) (E : List ℕ) (more : Bool) where
  pub part-attribute : (a : of-table.Attribute) (o : Lead) (E' : List ℕ) → more ≡ true → attribute_is a ≡ attribute_of l row → Leads (One a) b wall c E o E' → Leads (part_at l t row more) b wall c E o E'
  unfolding part_at
  part-attribute a o E' m g y = rw (m, ← g) y

  pub part-own : (k : of-content.Content) (o : Lead) → more ≡ false → content_is k ≡ (table_of l).content t → o ≡ own_lead c k → Leads (part_at l t row more) b wall c E o E
  unfolding part_at
  part-own k o m e g = rw (m, ← e, g) (own-leads b wall c E k)

pub ruleset before-ways = (part-attribute, part-own)

-- what came before a value, and that
module _ (b : ℕ → ℕ) (wall : ℕ) (E T : List ℕ) (l : Lead) where
  pub finish-stop : (n : Fault Bits) → l ≡ lead.Refuse n → Finishes l b wall E T (Err n) E T
  unfolding lead_view step_view
  finish-stop n i = record { says = λ mode held π. rw i }

  pub finish-go : (d : Cursor) → l ≡ lead.Go d → Finishes l b wall E T (Ok d) E T
  unfolding lead_view step_view
  finish-go d i = record { says = λ mode held π. rw i }

  pub finish-value : (v : Due) (s : Step) (E' T' : List ℕ) → l ≡ lead.Value v → Reads (value v.simple v.x v.y done) b wall v.cursor E T s E' T' → Finishes l b wall E T s E' T'
  unfolding lead_view
  finish-value v s E' T' i y = record { says = λ mode held π. rw i (y.says mode held π) }

pub ruleset finish-ways = (finish-stop, finish-go, finish-value)

-- a part, with its value
pub finished : (P : Plan) (b : ℕ → ℕ) (wall : ℕ) (c : Cursor) (E T : List ℕ) (l : Lead) (E' : List ℕ) (s : Step) (E'' T'' : List ℕ)
    → Leads P b wall c E l E' → Finishes l b wall E' T s E'' T'' → Reads P b wall c E T s E'' T''
finished P b wall c E T l E' s E'' T'' h y = record { says = λ mode held π. y.says mode held π ∙ h.says mode held T π }

-- what is left at a cursor c, with E and T, is all that was asked for at c₀, with E₀ and T₀
pub record Left (b : ℕ → ℕ) (wall : ℕ) (P₀ P : Plan) (c₀ : Cursor) (E₀ T₀ : List ℕ) (c : Cursor) (E T : List ℕ) : Type 0 where
  pub same : (mode : Lengths) (held : ℕ → Bool) (π : List ℕ)
      → outcome (read b mode held P (room_of E T c) π wall c.at.0) c π E T ≡ outcome (read b mode held P₀ (room_of E₀ T₀ c₀) π wall c₀.at.0) c₀ π E₀ T₀

-- so many parts of a type by a table's words, from attribute row i on: the last is the value that its content is
unfoldable pub Parts : List ℕ → ℕ → ℕ → ℕ → Plan
Parts l t zero i = done
Parts l t (suc m) i = attributes (attributes_from l m i) (own_value ((table_of l).content t))

-- the next part, then those after it
module _ (b : ℕ → ℕ) (mode : Lengths) (held : ℕ → Bool) (r : Room) (π : List ℕ) (wall at : ℕ) (l : List ℕ) (t : ℕ) where
  last-part : (i j : ℕ) → read b mode held (Parts l t 1 i) r π wall at
      ≡ after r (read b mode held (own_value ((table_of l).content t)) r π wall at) (λ u p. read b mode held (Parts l t 0 j) u π wall p)
  unfolding Parts attributes attributes_from read
  last-part i j = sym (after-done r _)

  next-part : (m i : ℕ) → read b mode held (Parts l t (suc (suc m)) i) r π wall at
      ≡ after r (steps.attribute_at b mode held (table_of []) (attribute_of l i) r π wall at) (λ u p. read b mode held (Parts l t (suc m) (i + 1)) u π wall p)
  unfolding Parts attributes attributes_from
  next-part m i =
      rw (attribute-join (attribute_of l i).must (attribute_of l i) (attributes (attributes_from l m (i + 1)) (own_value ((table_of l).content t))))
      (read_join b mode held (attribute (attribute_of l i).must (attribute_of l i) done) (attributes (attributes_from l m (i + 1)) (own_value ((table_of l).content t))) r π wall at)

-- parts up to a last row, from one on
abbrev pub UpTo : List ℕ → ℕ → ℕ → ℕ → Plan
UpTo l t end i = Parts l t (end + 1 - i) i

module _ (l : List ℕ) (t : ℕ) (b : ℕ → ℕ) (wall end : ℕ) (P : Plan) (c₀ : Cursor) (E₀ T₀ : List ℕ) where
  module _ (i : ℕ) (c : Cursor) (E T : List ℕ) (h : Left b wall P (UpTo l t end i) c₀ E₀ T₀ c E T) where
    pub left-none : end < i → Reads P b wall c₀ E₀ T₀ (Ok c) E T
    unfolding Parts read
    left-none g =
        let e : end + 1 - i ≡ 0 = omega arith in
        record {
          says = λ mode held π.
              outcome-none c π E T
              ∙ sym (ap (λ (m : ℕ). outcome (read b mode held (Parts l t m i) (room_of E T c) π wall c.at.0) c π E T) e)
              ∙ h.same mode held π;
        }

    module _ (g : i ≤ end) (s : Step) (E' T' : List ℕ) (y : Reads (part_at l t i (ltb i end)) b wall c E T s E' T') where
      turn_is : (mode : Lengths) (held : ℕ → Bool) (π : List ℕ) → read b mode held (UpTo l t end i) (room_of E T c) π wall c.at.0
          ≡ after (room_of E T c) (read b mode held (part_at l t i (ltb i end)) (room_of E T c) π wall c.at.0) (λ u p. read b mode held (UpTo l t end (i + 1)) u π wall p)
      unfolding part_at
      turn_is mode held π = go (ltb i end) refl
        where
          go : (more : Bool) → ltb i end ≡ more → read b mode held (UpTo l t end i) (room_of E T c) π wall c.at.0
              ≡ after (room_of E T c) (read b mode held (part_at l t i (ltb i end)) (room_of E T c) π wall c.at.0) (λ u p. read b mode held (UpTo l t end (i + 1)) u π wall p)
          go true m =
              let z = ltb-true i end m in
              let e : end + 1 - i ≡ suc (suc (end - (i + 1))) = omega arith in
              let f : end + 1 - (i + 1) ≡ suc (end - (i + 1)) = omega arith in
              rw (m, e, f) (next-part b mode held (room_of E T c) π wall c.at.0 l t (end - (i + 1)) i)
          go false m =
              let z = ltb-false i end m in
              let e : end + 1 - i ≡ 1 = omega arith in
              let f : end + 1 - (i + 1) ≡ 0 = omega arith in
              rw (m, e, f) (last-part b mode held (room_of E T c) π wall c.at.0 l t i (i + 1))

      pub left-stop : (m : Fault Bits) → s ≡ Err m → Reads P b wall c₀ E₀ T₀ (Err m) E' T'
      left-stop m w = record {
        says = λ mode held π.
            ap (λ (x : Step). step_view x π E' T') (sym w)
            ∙ after_stop s π E' T' _ c π E T (y.says mode held π) m w π _ _
            ∙ ap (λ (o : Answer). outcome o c π E T) (sym (turn_is mode held π))
            ∙ h.same mode held π;
      }

      pub left-more : (d : Cursor) → s ≡ Ok d → Left b wall P (UpTo l t end (i + 1)) c₀ E₀ T₀ d E' T'
      left-more d w = record {
        same = λ mode held π.
            after-go s π E' T' _ c π E T (y.says mode held π) d w π (λ u ρ p. read b mode held (UpTo l t end (i + 1)) u ρ wall p)
            ∙ ap (λ (o : Answer). outcome o c π E T) (sym (turn_is mode held π))
            ∙ h.same mode held π;
      }

pub ruleset left-ways = (left-none, left-stop)

-- the parts of a type are all that was asked for
module _ (l : List ℕ) (t : ℕ) (r : of-span.Span) (h : Spans l t r) where
  all-parts : UpTo l t (r.first + r.count) r.first ≡ before_rows l t
  unfolding table_of attributes_of Parts
  all-parts =
      let e : r.first + r.count + 1 - r.first ≡ suc r.count = omega arith in
      rw (e, h.first_is, h.count-is)

  pub left-all : (b : ℕ → ℕ) (wall : ℕ) (c : Cursor) (E T : List ℕ) → Left b wall (before_rows l t) (UpTo l t (r.first + r.count) r.first) c E T c E T
  left-all b wall c E T = record { same = λ mode held π. rw all-parts }

-- rows of a right table are inside it
module _ (l : List ℕ) (valid : verdict l ≡ right) (t : ℕ) (known : t < types_in l) where
  pub type-here : TypeInside l t
  type-here = type-inside l valid t known

  module _ (r : of-span.Span) (h : Spans l t r) where
    span-within : r.first + r.count ≤ attributes_in l
    span-within = rw (h.first_is, h.count-is) (span-ok l valid t known)

    pub end_fits : r.first + r.count < 4294967296
    end_fits = let a = (counts-ok l valid).attributes_few in let b = span-within in omega arith

    pub row_fits : (i : ℕ) → i ≤ r.first + r.count → i + 1 < 4294967296
    row_fits i g = let a = (counts-ok l valid).attributes_few in let b = span-within in omega arith

    pub row_here : (i : ℕ) → ltb i (r.first + r.count) ≡ true → AttributeInside l i
    row_here i m = let z = ltb-true i (r.first + r.count) m in attribute-inside l valid i (let b = span-within in omega arith)

pub ruleset inside-ways = (type-here, end_fits, row_fits, row_here)
