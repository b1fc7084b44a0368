-- CONTENT MODELS: what a list of events and its texts must be for an element, a row, a type's content or attributes,
-- said of the table alone, with no bits and no code: names, types chosen, order, branches, occurrence bounds, values of
-- their kinds (`InKind`), held marks, the flags of the mode, the rows open at once. `FollowsModel.antt` proves it of
-- every list given, `ModelIs.antt` that whatever follows has bits; `ValidModel.antt` has both as one theorem.
use Rattle.std.specs.Prelude.{ℕ, zero, suc, ◌+◌, ◌<◌, ◌≤◌, ◌≡◌, Bool, true, false, cond, List, [], ◌∷◌, ◌++◌, length}
use Rattle.numbers.specs.Kind as kinds
use Rattle.numbers.specs.Limit.{most_times}
use Rattle.table.specs.Rows.{Row, Content, Attribute, Table}
use Rattle.table.specs.Valid.{among}
use Rattle.value.specs.Values.{InKind}
use Rattle.model.specs.Model.{Types, default_type, codes, types_of}
use Rattle.model.specs.Items.{Lengths}
use Rattle.model.specs.Write.{Bare}

-- an event without its fourth word, the bits
abbrev pub word : (kind p q : ℕ) → Bare
word kind p q = record { kind = kind; p = p; q = q }

-- a Start's second word: 0 in mode 0, either in mode 1, 1 in mode 2
abbrev pub Flag : Lengths → ℕ → Type 0
Flag Lengths.never q = q ≡ 0
Flag Lengths.optional q = q < 2
Flag Lengths.always q = q ≡ 1

-- an element's effective type t and its substitute k (001, 7.6.5.3 and 8.4.5), which is counted from 1, or 0 for none of
-- them: t is the default type that this gives the element, or one derived from that
pub record Chosen (y : Types) (t k : ℕ) : Type 0 where
  pub substitute : k ≤ length y.substitutes
  pub type : among t (default_type y k ∷ y.derived (default_type y k)) ≡ true

-- the choice's own event, exactly where there is something to choose from: substitutes, or types derived from its own
unfoldable pub cast_of : Types → ℕ → ℕ → List Bare
cast_of y t k = cond (codes y) (word kinds.cast t k ∷ []) []

-- what a list is of
pub data Part : Type 0 where
  -- an element of a name, with what its type can be
  one : (name : ℕ) → Types → Part
  row : Row → Part
  -- n consecutive rows from one on; one row n times
  children : (first n : ℕ) → Part
  repeats : (child n : ℕ) → Part
  inside : (type : ℕ) → Part
  attributes : List Attribute → Part
  content : Content → Part

-- how many elements and particle rows may still be opened; what the list is of; its events; its texts
module _ (T : Table) (mode : Lengths) (held : ℕ → Bool) where
  pub data Model : ℕ → Part → List Bare → List ℕ → Type 0 where
    -- Start, the choice, what the effective type asks for, End, where that type is held; else a Blank of it, where a
    -- length may be coded
    element : {d name t k flag : ℕ} {y : Types} {L : List Bare} {X : List ℕ}
        → Flag mode flag → Chosen y t k → held t ≡ true → Model d (inside t) L X
        → Model d (one name y) (word kinds.start name flag ∷ (cast_of y t k ++ (L ++ (word kinds.end 0 0 ∷ [])))) X
    blank : {d name t k : ℕ} {y : Types}
        → Flag mode 1 → Chosen y t k → held t ≡ false
        → Model d (one name y) (word kinds.blank name t ∷ []) []
    -- an element row: its own type, the row's substitutes, the table's derived types
    declared : {d name type r : ℕ} {L : List Bare} {X : List ℕ}
        → Model d (one name (types_of T type r)) L X
        → Model (suc d) (row (Row.element name type r)) L X
    sequence : {d first count : ℕ} {L : List Bare} {X : List ℕ}
        → Model d (children first count) L X
        → Model (suc d) (row (Row.sequence first count)) L X
    choice : {d first count v : ℕ} {L : List Bare} {X : List ℕ}
        → v < count → Model d (row (T.row (first + v))) L X
        → Model (suc d) (row (Row.choice first count)) (word kinds.pick v 0 ∷ L) X
    -- at least least and at most most; 65,535 where that is unbounded, which is 65,536
    occurs : {d child least most k : ℕ} {L : List Bare} {X : List ℕ}
        → least ≤ k → k ≤ most → k ≤ most_times → Model d (repeats child k) L X
        → Model (suc d) (row (Row.occurs child least most)) (word kinds.times k 0 ∷ L) X
    no-child : {d first : ℕ} → Model d (children first zero) [] []
    child : {d first n : ℕ} {K L : List Bare} {X Y : List ℕ}
        → Model d (row (T.row first)) K X → Model d (children (first + 1) n) L Y
        → Model d (children first (suc n)) (K ++ L) (X ++ Y)
    no-repeat : {d c : ℕ} → Model d (repeats c zero) [] []
    repeat : {d c n : ℕ} {K L : List Bare} {X Y : List ℕ}
        → Model d (row (T.row c)) K X → Model d (repeats c n) L Y
        → Model d (repeats c (suc n)) (K ++ L) (X ++ Y)
    -- attributes, then content
    within : {d type : ℕ} {K L : List Bare} {X Y : List ℕ}
        → Model d (attributes (T.attributes type)) K X → Model d (content (T.content type)) L Y
        → Model d (inside type) (K ++ L) (X ++ Y)
    no-attribute : {d : ℕ} → Model d (attributes []) [] []
    -- an attribute that is there has its value next; only one that is not required may be absent, and then it has none
    present : {d p q : ℕ} {a : Attribute} {as' : List Attribute} {L : List Bare} {X Y : List ℕ}
        → InKind a.simple a.b a.c p q X → Model d (attributes as') L Y
        → Model d (attributes (a ∷ as')) (word kinds.attribute a.name 1 ∷ word kinds.value p q ∷ L) (X ++ Y)
    absent : {d : ℕ} {a : Attribute} {as' : List Attribute} {L : List Bare} {X : List ℕ}
        → a.must ≡ false → Model d (attributes as') L X
        → Model d (attributes (a ∷ as')) (word kinds.attribute a.name 0 ∷ L) X
    empty : {d : ℕ} → Model d (content Content.empty) [] []
    simple : {d kind b c p q : ℕ} {X : List ℕ}
        → InKind kind b c p q X
        → Model d (content (Content.simple kind b c)) (word kinds.value p q ∷ []) X
    particles : {d i : ℕ} {L : List Bare} {X : List ℕ}
        → Model d (row (T.row i)) L X
        → Model d (content (Content.particles i)) L X
