-- The writing as the code goes it: one function for each part of an element that the code writes by itself.
use Rattle.std.specs.Prelude.{ℕ, suc, ◌+◌, Bool, List, length}
use Rattle.table.specs.Rows.{Row, Content, Attribute, Table}
use Rattle.model.specs.Model.{Item, value, attribute, attributes, contents, rows, within, plan}
use Rattle.model.specs.Model.Plan.{done}
use Rattle.model.specs.Items.{Lengths}
use Rattle.model.specs.Write.{Bare, Out, put, taken, word_of, as_item, item_out, coded, write}

-- the next event as an item's, and then, with its value and what is left, the rest
abbrev pub item_then : Item → List Bare → List ℕ → (ℕ → List Bare → List ℕ → Out) → Out
item_then i M T k = taken (as_item i) M (λ e N. coded (item_out i (word_of i e) T) (suc (length N)) (λ (w, U). put w (k (word_of i e) N U)))

module _ (mode : Lengths) (held : ℕ → Bool) where
  module _ (T : Table) where
    abbrev pub particle_out : ℕ → Row → List Bare → List ℕ → Out
    particle_out d row M X = write mode held (plan T d row done) M X

    abbrev pub rounds_out : ℕ → ℕ → (ℕ → Row) → List Bare → List ℕ → Out
    rounds_out d n g M X = write mode held (rows (plan T d) n g done) M X

    abbrev pub children_out : ℕ → ℕ → ℕ → List Bare → List ℕ → Out
    children_out d n first M X = rounds_out d n (λ i. T.row (first + i)) M X

    abbrev pub repeats_out : ℕ → ℕ → ℕ → List Bare → List ℕ → Out
    repeats_out d n child M X = rounds_out d n (λ i. T.row child) M X

    abbrev pub value_out : ℕ → ℕ → ℕ → List Bare → List ℕ → Out
    value_out k x y M X = write mode held (value k x y done) M X

    abbrev pub attribute_out : Attribute → List Bare → List ℕ → Out
    attribute_out a M X = write mode held (attribute a.must a done) M X

    abbrev pub attributes_out : List Attribute → List Bare → List ℕ → Out
    attributes_out l M X = write mode held (attributes l done) M X

    abbrev pub content_out : ℕ → Content → List Bare → List ℕ → Out
    content_out d c M X = write mode held (contents (plan T d) T.row c) M X

    abbrev pub inside_out : ℕ → ℕ → List Bare → List ℕ → Out
    inside_out d t M X = write mode held (within T (plan T d) t) M X
