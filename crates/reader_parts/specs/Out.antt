-- What a part of the reader leaves (`step_view`) and what the meaning says it leaves (`outcome`): a contract is an equation of the
-- two. On a refusal neither speaks of the buffers.
use Rattle.std.specs.Prelude.{ℕ, ◌+◌, ◌-◌, ◌*◌, ◌/◌, min, ◌≡◌, List, [], Bool, cond, length, Result, Ok, Err}
use Rattle.std.proofs.lemmas.List.Edits.{sets}
use Rattle.numbers.specs.Refusal.{content_short}
use Rattle.numbers.specs.Kind as kinds
use Rattle.numbers.specs.Limit.{most_events}
use Rattle.model.specs.Model.{event, end, value, maybe, Plan, Answer, events, texts, tree_slots, tree_bytes}
use Rattle.model.specs.Model.Plan.{done}
use Rattle.model.specs.Model.Answer.{given, refused}
use Rattle.table.specs.Rows.{Attribute, Content}
use Rattle.table.specs.Rows.Content.{empty, simple, particles}
use Rattle.model.specs.Items.{Lengths}
use Rattle.model.specs.Read.{Room, after, met, stored, read}
use Rattle.model.specs.Whole.{event_words}
use Rattle.reader_parts.specs.declared.Cursor.{Cursor}
use Rattle.numbers.specs.Refused.{number_of}
use Rattle.numbers.specs.declared.refusal.Fault.{Fault}
use Rattle.wire.specs.declared.Bits.{Bits}

-- a part was read, or what is refused and where
abbrev pub Step : Type 0
Step = Result Cursor (Fault Bits)

-- events that so many words hold
abbrev pub slots_in : ℕ → ℕ
slots_in words = min (words / 4) most_events

-- the room that is left in lent events E and texts T, by what the cursor says is stored
abbrev pub room_of : List ℕ → List ℕ → Cursor → Room
room_of E T c = record { slots = slots_in (length E) - c.count; bytes = length T - c.used }

-- gone on: place, events stored, text bytes stored, path, events, texts; or refused: number, place, path
pub data Out : Type 0 where
  went : (at count used : ℕ) (π E T : List ℕ) → Out
  stopped : (number place : ℕ) (π : List ℕ) → Out

unfoldable pub step_view : Step → List ℕ → List ℕ → List ℕ → Out
step_view (Ok c) π E T = went c.at.0 c.count c.used π E T
step_view (Err e) π E T = stopped (number_of e.why) e.at.0 π

-- a tree's events and texts laid into the buffers, from the cursor on; π is the path where it goes on
unfoldable pub outcome : Answer → Cursor → List ℕ → List ℕ → List ℕ → Out
outcome (given ns q) c π E T =
    went q (c.count + tree_slots ns) (c.used + tree_bytes ns) π (sets E (4 * c.count) (event_words (events ns))) (sets T c.used (texts ns))
outcome (refused n p ρ) c π E T = stopped n p ρ

-- CONTRACTS OF LEAVES, for every path. A plan read, in every mode and by any held marks, as it opens no element
pub record Reads (P : Plan) (b : ℕ → ℕ) (wall : ℕ) (c : Cursor) (E T : List ℕ) (s : Step) (E' T' : List ℕ) : Type 0 where
  pub says : (mode : Lengths) (held : ℕ → Bool) (π : List ℕ) → step_view s π E' T' ≡ outcome (read b mode held P (room_of E T c) π wall c.at.0) c π E T

-- the value that a content is, if it is one
unfoldable pub own_value : Content → Plan
own_value empty = done
own_value (simple kind b c) = value kind b c done
own_value (particles row) = done

-- an event stored, with no text; texts are not touched, whatever they are
pub record Stores (kind p q next : ℕ) (c : Cursor) (E : List ℕ) (s : Step) (E' : List ℕ) : Type 0 where
  pub says : (T π : List ℕ) → step_view s π E' T ≡ outcome (stored (room_of E T c) π c.at.0 (event kind p q (next - c.at.0)) [] next) c π E T

-- a Value stored, with its text
pub record Keeps (word : ℕ) (ts : List ℕ) (next : ℕ) (c : Cursor) (E T : List ℕ) (s : Step) (E' T' : List ℕ) : Type 0 where
  pub says : (π : List ℕ) → step_view s π E' T' ≡ outcome (stored (room_of E T c) π c.at.0 (event kinds.value word 0 (next - c.at.0)) ts next) c π E T

-- an attribute's event stored, with whether it is present, and then its value where it is
pub record Notes (present next : ℕ) (a : Attribute) (b : ℕ → ℕ) (wall : ℕ) (c : Cursor) (E T : List ℕ) (s : Step) (E' T' : List ℕ) : Type 0 where
  pub says : (mode : Lengths) (held : ℕ → Bool) (π : List ℕ) → step_view s π E' T'
      ≡ outcome (after (room_of E T c) (stored (room_of E T c) π c.at.0 (event kinds.attribute a.name present (next - c.at.0)) [] next)
      (λ u p. read b mode held (maybe present (value a.simple a.b a.c done) done) u π wall p)) c π E T

-- the end of an element: whether its declared end is met, then End
unfoldable pub ending : Bool → ℕ → ℕ → Room → List ℕ → ℕ → Answer
ending coded body wall r π at = cond (met coded at wall) (stored r π at end [] at) (refused content_short body π)

pub record Closes (coded : Bool) (body wall : ℕ) (c : Cursor) (E : List ℕ) (s : Step) (E' : List ℕ) : Type 0 where
  pub says : (T π : List ℕ) → step_view s π E' T ≡ outcome (ending coded body wall (room_of E T c) π c.at.0) c π E T
