-- What stands before an element's rows: its attributes, with the value of one that is present, then its own value; and these as slots, as the code goes
-- through them.
use Rattle.std.specs.Prelude.{Result, Ok, Err}
use Rattle.numbers.specs.declared.refusal.Fault.{Fault}
use Rattle.std.specs.Prelude.{ℕ, zero, suc, ◌+◌, ◌≡◌, Bool, true, false, cond, List, [], ◌∷◌, ltb}
use Rattle.table.specs.Rows.{Attribute, Content, table_of, attribute_of}
use Rattle.table.specs.Rows.Content.{empty, simple, particles}
use Rattle.model.specs.Model.{Item}
use Rattle.model.specs.Model.Item.{required, optional, valued}
use Rattle.model.specs.Write.{Bare, Out, wrote, along}
use Rattle.model.specs.WriteSteps.{item_then}
use Rattle.writer_parts.specs.declared.Spot.{Spot}
use Rattle.writer_parts.specs.declared.attributes.Slot.{Slot}
use Rattle.writer_parts.specs.declared.attributes.Marked.{Marked}
use Rattle.writer_parts.specs.declared.attributes.Marked.TheVariants as mv
use Rattle.writer_parts.specs.Walk.{Judgement, Ready, Walks, alone}

-- the value of an attribute that is there, or nothing
unfoldable pub present : ℕ → (simple b c : ℕ) → List Bare → List ℕ → Out
present zero k b c N U = wrote [] N U
present (suc v) k b c N U = alone (valued k b c) N U

unfoldable pub required· : (name simple b c : ℕ) → List Bare → List ℕ → Out
required· name k b c M X = item_then (required name) M X (λ v N U. alone (valued k b c) N U)

unfoldable pub optional· : (name simple b c : ℕ) → List Bare → List ℕ → Out
optional· name k b c M X = item_then (optional name) M X (λ v N U. present v k b c N U)

unfoldable pub attribute· : Attribute → List Bare → List ℕ → Out
attribute· a M X = cond a.must (required· a.name a.simple a.b a.c M X) (optional· a.name a.simple a.b a.c M X)

unfoldable pub attributes· : List Attribute → List Bare → List ℕ → Out
attributes· [] M X = wrote [] M X
attributes· (a ∷ l) M X = along (attribute· a M X) (λ N U. attributes· l N U)

-- an attribute's flag
abbrev pub flag_item : Bool → ℕ → Item
flag_item true name = required name
flag_item false name = optional name

-- a type's own value
unfoldable pub own· : Content → List Bare → List ℕ → Out
own· empty M X = wrote [] M X
own· (simple k b c) M X = alone (valued k b c) M X
own· (particles i) M X = wrote [] M X

-- what stands before a type's rows
unfoldable pub values· : (t : List ℕ) (ty : ℕ) → List Bare → List ℕ → Out
values· t ty M X = along (attributes· ((table_of t).attributes ty) M X) (λ N U. own· ((table_of t).content ty) N U)

-- a slot as the code has it, and the slot of a number: an attribute row of the type, or after the last one its own value
abbrev pub attribute_in : Slot → Attribute
attribute_in s = record { name = s.name; must = s.must; simple = s.simple; b = s.b; c = s.c }

unfoldable pub bare· : Slot → List Bare → List ℕ → Out
bare· s M X = cond s.valued (alone (valued s.simple s.b s.c) M X) (wrote [] M X)

unfoldable pub slot· : Slot → List Bare → List ℕ → Out
slot· s M X = cond s.flagged (attribute· (attribute_in s) M X) (bare· s M X)

unfoldable pub slot_at· : (t : List ℕ) (ty first n i : ℕ) → List Bare → List ℕ → Out
slot_at· t ty first n i M X = cond (ltb i n) (attribute· (attribute_of t (first + i)) M X) (own· ((table_of t).content ty) M X)

pub record Slots (t : List ℕ) (ty first n i : ℕ) (s : Slot) : Type 0 where
  pub is : (M : List Bare) (X : List ℕ) → slot· s M X ≡ slot_at· t ty first n i M X

-- past a slot's flag: whatever its value comes to, or that none comes
abbrev pub MarksIs : (L X : List ℕ) → Slot → Spot → List ℕ → Result Marked (Fault ℕ) → List ℕ → Type 0
MarksIs L X s c N (Ok (mv.Value e)) M =
    (Ready L X M e) × ((r : Judgement) (K : List ℕ) → Walks L X (alone (valued s.simple s.b s.c)) e M r K → Walks L X (slot· s) c N r K)
MarksIs L X s c N (Ok (mv.Nothing e)) M = Walks L X (slot· s) c N (Ok e) M
MarksIs L X s c N (Err f) M = Walks L X (slot· s) c N (Err f) M

pub record Marks (L X : List ℕ) (s : Slot) (c : Spot) (N : List ℕ) (r : Result Marked (Fault ℕ)) (M : List ℕ) : Type 0 where
  pub is : MarksIs L X s c N r M
