-- What is due and what was read. A PLAN is what a content model lets come, item by item: it knows no bits, no room and no
-- held marks. A reading of it gives the TREE of what was read, or a refusal; events and texts are the tree's flattening.
use Rattle.std.specs.Prelude.{ℕ, zero, suc, ◌+◌, ◌-◌, List, [], ◌∷◌, ◌++◌, Bool, true, false, cond, length, get_or}
use Rattle.numbers.specs.Kind as kinds
use Rattle.numbers.specs.Limit.{most_open}
use Rattle.value.specs.Simple.{simple_of, first_word, second_word}
use Rattle.table.specs.Rows.{Row, Content, Attribute, Table}
use Rattle.table.specs.Rows.Content.{empty, simple, particles}

-- document 01's four words: kind (crate numbers has their names), p, q, bits taken
pub record Event : Type 0 where
  pub kind : ℕ
  pub p : ℕ
  pub q : ℕ
  pub bits : ℕ

abbrev pub event : ℕ → ℕ → ℕ → ℕ → Event
event k p q n = record { kind = k; p = p; q = q; bits = n }

abbrev pub end : Event
end = event kinds.end 0 0 0

-- one code that gives one event: a required attribute (no bits) and an optional one's flag (001, 8.5.3), a value (8.5.4), a branch, which is a
-- code transition (8.5.2.4.1), a count, which is a loop's (8.5.2.4.3)
pub data Item : Type 0 where
  required : (name : ℕ) → Item
  optional : (name : ℕ) → Item
  valued : (kind b c : ℕ) → Item
  picked : (count : ℕ) → Item
  counted : (least most : ℕ) → Item

-- an item's event, by its value and its bits
unfoldable pub event_of : Item → ℕ → ℕ → Event
event_of (required name) v n = event kinds.attribute name 1 n
event_of (optional name) v n = event kinds.attribute name v n
event_of (valued kind b c) v n = event kinds.value (first_word (simple_of kind b c) v) (second_word (simple_of kind b c) v) n
event_of (picked count) v n = event kinds.pick v 0 n
event_of (counted least most) v n = event kinds.times v 0 n

-- what an element's type can be: its own, or that of one of its substitutes; and then, of either, a derived type
pub record Types : Type 0 where
  pub own : ℕ
  pub substitutes : List ℕ
  pub derived : ℕ → List ℕ

-- nothing to choose from
abbrev pub only : ℕ → Types
only type = record { own = type; substitutes = []; derived = λ t. [] }

-- one of a list, counted from 1, or what there is without it
unfoldable pub chosen : ℕ → List ℕ → ℕ → ℕ
chosen t l zero = t
chosen t l (suc k) = get_or l k 0

-- the default type, by the substitute; the effective type, by the type code too (001, 8.4.2.2 and 8.4.5)
unfoldable pub default_type : Types → ℕ → ℕ
default_type y k = chosen y.own y.substitutes k

unfoldable pub effective_type : Types → ℕ → ℕ → ℕ
effective_type y k j = chosen (default_type y k) (y.derived (default_type y k)) j

-- a flag bit is sent where there is something to choose from
unfoldable pub sends : List ℕ → List ℕ → Bool
sends [] [] = false
sends [] (t ∷ l) = true
sends (t ∷ l) d = true

unfoldable pub codes : Types → Bool
codes y = sends y.substitutes (y.derived y.own)

-- nothing more; a row too many (document 01's limit of 64); an item and, by its value, the rest; an element (a type state, 001, 8.5.2.4.2), what
-- its type lets come inside it, the rest
pub data Plan : Type 0 where
  done : Plan
  deep : Plan
  item : Item → (ℕ → Plan) → Plan
  element : (name : ℕ) → Types → (inside : ℕ → Plan) → (rest : Plan) → Plan

-- attributes (001, 8.5.3) come in the table's order: the value of one that is present, no value of one that is absent
unfoldable pub value : ℕ → ℕ → ℕ → Plan → Plan
value kind b c rest = item (valued kind b c) (λ v. rest)

unfoldable pub maybe : ℕ → Plan → Plan → Plan
maybe zero p rest = rest
maybe (suc v) p rest = p

unfoldable pub attribute : Bool → Attribute → Plan → Plan
attribute true a rest = item (required a.name) (λ v. value a.simple a.b a.c rest)
attribute false a rest = item (optional a.name) (λ v. maybe v (value a.simple a.b a.c rest) rest)

unfoldable pub attributes : List Attribute → Plan → Plan
attributes [] rest = rest
attributes (a ∷ l) rest = attribute a.must a (attributes l rest)

-- Content (001, 8.4.6.1): a simple value, or the rows of a complex content; f is the plan of a row
unfoldable pub contents : (Row → Plan → Plan) → (ℕ → Row) → Content → Plan
contents f row empty = done
contents f row (simple kind b c) = value kind b c done
contents f row (particles i) = f (row i) done

unfoldable pub rows : (Row → Plan → Plan) → ℕ → (ℕ → Row) → Plan → Plan
rows f zero g rest = rest
rows f (suc n) g rest = f (g 0) (rows f n (λ i. g (suc i)) rest)

-- the table as a payload's mode has it: where type codes are not sent, no type has derived types
abbrev pub table_in : Bool → Table → Table
table_in casting T =
    record {
      types = T.types;
      attributes = T.attributes;
      content = T.content;
      row = T.row;
      substitutes = T.substitutes;
      derived = λ t. cond casting (T.derived t) [];
      derivations = T.derivations;
    }

module _ (T : Table) where
  -- Attributes(effective_type), then Content(.., effective_type) (001, 8.4.2.1)
  unfoldable pub within : (Row → Plan → Plan) → ℕ → Plan
  within f t = attributes (T.attributes t) (contents f T.row (T.content t))

  abbrev pub types_of : (type row : ℕ) → Types
  types_of type row = record { own = type; substitutes = T.substitutes row; derived = T.derived }

  -- a row as 001, 8.5.2.2.5.2 makes an automaton of it: an element declaration node, a sequence node, a choice node, an occurrence node
  unfoldable pub due : (Row → Plan → Plan) → Row → Plan → Plan
  due f (Row.element name type row) rest = element name (types_of type row) (λ t. within f t) rest
  due f (Row.sequence first count) rest = rows f count (λ i. T.row (first + i)) rest
  due f (Row.choice first count) rest = item (picked count) (λ v. f (T.row (first + v)) rest)
  due f (Row.occurs child least most) rest = item (counted least most) (λ v. rows f v (λ i. T.row child) rest)

  -- a row and then the rest, where so many rows may still be opened
  unfoldable pub plan : ℕ → Row → Plan → Plan
  plan zero row rest = deep
  plan (suc d) row rest = due (plan d) row rest

  -- the root, which is itself the first of at most most_open open rows
  abbrev pub rooted : ℕ → ℕ → Plan
  rooted name type = element name (only type) (λ t. within (plan (most_open - 1)) t) done

-- an element that was opened: what its Start says, its type and its place
pub record Mark : Type 0 where
  pub name : ℕ
  pub type : ℕ
  pub coded : Bool
  pub at : ℕ
  pub bits : ℕ

-- what was read, in order: an item with its place, event and text bytes, or an element with what is inside it; then the rest
pub data Nodes : Type 0 where
  none : Nodes
  leaf : (at : ℕ) → Event → List ℕ → Nodes → Nodes
  node : Mark → Nodes → Nodes → Nodes

infixr 30 ◌then◌
unfoldable pub ◌then◌ : Nodes → Nodes → Nodes
none then ms = ms
leaf at e ts r then ms = leaf at e ts (r then ms)
node m i r then ms = node m i (r then ms)

unfoldable pub flag_of : Bool → ℕ
flag_of true = 1
flag_of false = 0

abbrev pub start : Mark → Event
start m = event kinds.start m.name (flag_of m.coded) m.bits

-- the list of events; the texts one after another
unfoldable pub events : Nodes → List Event
events none = []
events (leaf at e ts r) = e ∷ events r
events (node m i r) = start m ∷ (events i ++ (end ∷ events r))

unfoldable pub texts : Nodes → List ℕ
texts none = []
texts (leaf at e ts r) = ts ++ texts r
texts (node m i r) = texts i ++ texts r

-- how many events and text bytes, and the sum of the events' bits
unfoldable pub tree_slots : Nodes → ℕ
tree_slots none = 0
tree_slots (leaf at e ts r) = 1 + tree_slots r
tree_slots (node m i r) = 2 + tree_slots i + tree_slots r

unfoldable pub tree_bytes : Nodes → ℕ
tree_bytes none = 0
tree_bytes (leaf at e ts r) = length ts + tree_bytes r
tree_bytes (node m i r) = tree_bytes i + tree_bytes r

unfoldable pub tree_bits : Nodes → ℕ
tree_bits none = 0
tree_bits (leaf at e ts r) = e.bits + tree_bits r
tree_bits (node m i r) = m.bits + tree_bits i + tree_bits r

abbrev pub Path : Type 0
Path = List ℕ

-- the answer: what was read and the place past it; or number, place and path (here the innermost open element first)
pub data Answer : Type 0 where
  given : Nodes → ℕ → Answer
  refused : (number place : ℕ) → Path → Answer
