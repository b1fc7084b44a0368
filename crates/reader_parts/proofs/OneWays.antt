-- Each way through an attribute with its value, through the attributes of a type, and through those and the value that a content is: what is left.
use Prim.Native.Nat.{ℕ, suc, ◌+◌, ◌-◌, ◌<◌, ◌≤◌}
use mathlib.Core.Path.{◌≡◌, sym, ap, ◌∙◌}
use mathlib.Core.List.{List, []}
use mathlib.Core.Bool.{Bool}
use native.Mathlib.Omega.{arith}
use Rattle.wire.specs.declared.Bits.{Bits}
use Rattle.table.specs.Rows.{Attribute, table_of, first_of, count_of, attribute_of, attributes_from, attributes_of}
use Rattle.table.specs.Views.{attribute_is, content_is, Spans}
use Rattle.table.specs.declared.answers.Content as of-content
use Rattle.table.specs.declared.answers.Attribute as of-table
use Rattle.table.specs.declared.answers.Span as of-span
use Rattle.model.specs.Model.{Plan, Answer, attributes}
use Rattle.model.specs.Model.Plan.{done}
use Rattle.model.specs.Items.{Lengths}
use Rattle.model.specs.Read.{after, read}
use Rattle.model.proofs.Join.{attributes-join, read_join}
use Rattle.model.specs.Steps as steps
use Rattle.model.proofs.Steps as steps-laws
use Rattle.reader_parts.specs.declared.Cursor.{Cursor}
use Rattle.std.specs.Prelude.{Ok, Err}
use Rattle.numbers.specs.declared.refusal.Fault.{Fault}
use Rattle.reader_parts.specs.declared.attributes.Lead.{Lead}
use Rattle.reader_parts.specs.Out.{Step, room_of, step_view, outcome, own_value, Reads}
use Rattle.reader_parts.specs.Parts.{own_lead, Finishes}
use Rattle.reader_parts.proofs.Laws.{after_stop, after-go, outcome-none}
use Rattle.reader_parts.proofs.AttributeWays.{One, Left, own-leads}

-- the attribute rows of a table from row i on, up to an end
abbrev pub Rest : List ℕ → ℕ → ℕ → Plan
Rest l end i = attributes (attributes_from l (end - i) i) done

-- the end of a type's rows
abbrev pub end_of : List ℕ → ℕ → ℕ
end_of l t = first_of l t + count_of l t

-- the attributes of a type
abbrev pub All : List ℕ → ℕ → Plan
All l t = attributes ((table_of l).attributes t) done

module _ (l : List ℕ) (t : ℕ) (b : ℕ → ℕ) (wall : ℕ) (c₀ : Cursor) (E₀ T₀ : List ℕ) where
  pub left-all : (r : of-span.Span) → Spans l t r → Left b wall (All l t) (Rest l (end_of l t) r.first) c₀ E₀ T₀ c₀ E₀ T₀
  unfolding table_of attributes_of
  left-all r h =
      let e : first_of l t + count_of l t - first_of l t ≡ count_of l t = omega arith in
      record { same = λ mode held π. rw (h.first_is, e) }

  module _ (i : ℕ) (c : Cursor) (E T : List ℕ) (h : Left b wall (All l t) (Rest l (end_of l t) i) c₀ E₀ T₀ c E T) where
    pub left-none : end_of l t ≤ i → Reads (All l t) b wall c₀ E₀ T₀ (Ok c) E T
    left-none k =
        let e : end_of l t - i ≡ 0 = omega arith in
        record {
          says = λ mode held π.
              outcome-none c π E T
              ∙ ap (λ (o : Answer). outcome o c π E T) (sym (ap (λ (m : ℕ). read b mode held (attributes (attributes_from l m i) done) (room_of E T c) π wall c.at.0) e ∙ steps-laws.attributes-from-none b mode held (table_of []) (room_of E T c) π wall c.at.0 l i))
              ∙ h.same mode held π;
        }

    module _ (k : i < end_of l t) (a : of-table.Attribute) (g : attribute_is a ≡ attribute_of l i) (s : Step) (E' T' : List ℕ)
        (y : Reads (One a) b wall c E T s E' T') where
      -- the row that was read, then those after it
      turn_is : (mode : Lengths) (held : ℕ → Bool) (π : List ℕ) → read b mode held (Rest l (end_of l t) i) (room_of E T c) π wall c.at.0
          ≡ after (room_of E T c) (read b mode held (One a) (room_of E T c) π wall c.at.0)
          (λ u p. read b mode held (Rest l (end_of l t) (i + 1)) u π wall p)
      turn_is mode held π =
          let e : end_of l t - i ≡ suc (end_of l t - (i + 1)) = omega arith in
          ap (λ (m : ℕ). read b mode held (attributes (attributes_from l m i) done) (room_of E T c) π wall c.at.0) e
          ∙ steps-laws.attributes-from b mode held (table_of []) (room_of E T c) π wall c.at.0 l (end_of l t - (i + 1)) i
          ∙ (λ j. after (room_of E T c) (steps.attribute_at b mode held (table_of []) (sym g j) (room_of E T c) π wall c.at.0)
          (λ u p. read b mode held (Rest l (end_of l t) (i + 1)) u π wall p))

      pub left-stop : (m : Fault Bits) → s ≡ Err m → Reads (All l t) b wall c₀ E₀ T₀ (Err m) E' T'
      left-stop m w = record {
        says = λ mode held π.
            ap (λ (x : Step). step_view x π E' T') (sym w)
            ∙ after_stop s π E' T' _ c π E T (y.says mode held π) m w π _ _
            ∙ ap (λ (o : Answer). outcome o c π E T) (sym (turn_is mode held π))
            ∙ h.same mode held π;
      }

      pub left-more : (d : Cursor) → s ≡ Ok d → Left b wall (All l t) (Rest l (end_of l t) (i + 1)) c₀ E₀ T₀ d E' T'
      left-more d w = record {
        same = λ mode held π.
            after-go s π E' T' _ c π E T (y.says mode held π) d w π (λ u ρ p. read b mode held (Rest l (end_of l t) (i + 1)) u ρ wall p)
            ∙ ap (λ (o : Answer). outcome o c π E T) (sym (turn_is mode held π))
            ∙ h.same mode held π;
      }

-- attributes, and then the value that a content is, if it is one
module _ (l : List Attribute) (b : ℕ → ℕ) (wall : ℕ) (c : Cursor) (E T : List ℕ) (k : of-content.Content) (s : Step) (E' T' : List ℕ) (y : Reads (attributes l done) b wall c E T s E' T') where
  own-after : (mode : Lengths) (held : ℕ → Bool) (π : List ℕ) → read b mode held (attributes l (own_value (content_is k))) (room_of E T c) π wall c.at.0
      ≡ after (room_of E T c) (read b mode held (attributes l done) (room_of E T c) π wall c.at.0) (λ u p. read b mode held (own_value (content_is k)) u π wall p)
  own-after mode held π = rw (attributes-join l (own_value (content_is k))) (read_join b mode held (attributes l done) (own_value (content_is k)) (room_of E T c) π wall c.at.0)

  pub before-stop : (n : Fault Bits) → s ≡ Err n → Reads (attributes l (own_value (content_is k))) b wall c E T (Err n) E' T'
  before-stop n i = record {
    says = λ mode held π.
        ap (λ (x : Step). step_view x π E' T') (sym i)
        ∙ after_stop s π E' T' _ c π E T (y.says mode held π) n i π _ _
        ∙ ap (λ (o : Answer). outcome o c π E T) (sym (own-after mode held π));
  }

  pub before-own : (d : Cursor) → s ≡ Ok d → (o : Lead) → o ≡ own_lead d k → (r : Step) (E'' T'' : List ℕ) → Finishes o b wall E' T' r E'' T''
      → Reads (attributes l (own_value (content_is k))) b wall c E T r E'' T''
  before-own d i o g r E'' T'' h = record {
    says = λ mode held π.
        h.says mode held π
        ∙ rw g ((own-leads b wall d E' k).says mode held T' π)
        ∙ after-go s π E' T' _ c π E T (y.says mode held π) d i π (λ u ρ p. read b mode held (own_value (content_is k)) u ρ wall p)
        ∙ ap (λ (o : Answer). outcome o c π E T) (sym (own-after mode held π));
  }
