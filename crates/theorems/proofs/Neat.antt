-- NEAT PLANS: wherever an element can come, each type that it can be stands once among them, so that the writer finds it at the place that the codes
-- name. Every plan of a right table is neat.
use Prim.Native.Nat.{ℕ, zero, suc, ◌+◌, ◌-◌, ◌<◌}
use mathlib.Core.Path.{◌≡◌}
use mathlib.Core.Bool.{Bool, true, false}
use mathlib.Core.List.{List, [], ◌∷◌}
use native.Mathlib.Omega.{arith}
use Rattle.numbers.specs.Limit.{most_open}
use Rattle.table.specs.Rows.{Row, Attribute, Table, table_of}
use Rattle.table.specs.Rows as rows
use Rattle.table.specs.Valid.{once}
use Rattle.table.specs.Words.{particles_in}
use Rattle.model.specs.Model.{Types, only, default_type, Plan, value, maybe, attribute, attributes, contents, within, due, plan, table_in}
use Rattle.model.specs.Model as model
use Rattle.model.specs.Model.Plan.{done, deep, item, element}
use Rattle.model.specs.Items.{ItemIs, CodesAre}
use Rattle.model.specs.Entries.{Entered, plan_of}
use Rattle.model.proofs.ItemOut.{picked_value}
use Rattle.theorems.proofs.Choices.{codes-chosen}
use Rattle.theorems.proofs.Bounded.{TypesFine, RowFine, ContentFine, Bounded, default-known, effective-known, only-fine, right-bounded}

-- of an item by each value that it can have, of an element by each type and substitute that its codes can name
abbrev pub Neat : Plan → Type 0
Neat done = Unit {0}
Neat deep = Unit {0}
Neat (item i k) = (v : ℕ) (ts w : List ℕ) → ItemIs i v ts w → Neat (k v)
Neat (element name y f P) =
    ((t k : ℕ) (c : List ℕ) → CodesAre y t k c → (once (default_type y k ∷ y.derived (default_type y k)) ≡ true) × Neat (f t)) × Neat P

-- attributes name no type to choose
maybe-neat : (v : ℕ) (P rest : Plan) → Neat P → Neat rest → Neat (maybe v P rest)
unfolding maybe
maybe-neat zero P rest h k = k
maybe-neat (suc v) P rest h k = h

attribute-neat : (t : Bool) (a : Attribute) (rest : Plan) → Neat rest → Neat (attribute t a rest)
unfolding attribute value
attribute-neat true a rest h = λ v ts w i u us x j. h
attribute-neat false a rest h = λ v ts w i. maybe-neat v (value a.simple a.b a.c rest) rest (λ u us x j. h) h

attributes-neat : (l : List Attribute) (rest : Plan) → Neat rest → Neat (attributes l rest)
unfolding attributes
attributes-neat [] rest h = h
attributes-neat (a ∷ l) rest h = attribute-neat a.must a (attributes l rest) (attributes-neat l rest h)

module _ (T : Table) (P : ℕ) (bounded : Bounded T P) where
  one-neat : (name : ℕ) (y : Types) (f : ℕ → Plan) (rest : Plan) → TypesFine T.types y → ((t : ℕ) → t < T.types → Neat (f t)) → Neat rest
      → Neat (element name y f rest)
  one-neat name y f rest h inner k = (
    λ t k c d.
        let ch = codes-chosen d in
        (h.apart (default_type y k) (default-known h k ch.substitute), inner t (effective-known h ch)),
    k,
  )

  -- rows, where f makes a neat plan of each
  module _ (f : Row → Plan → Plan) (ih : (r : Row) → RowFine T P r → (rest : Plan) → Neat rest → Neat (f r rest)) where
    rows-neat : (n : ℕ) (g : ℕ → ℕ) → ((i : ℕ) → i < n → g i < P) → (rest : Plan) → Neat rest → Neat (model.rows f n (λ i. T.row (g i)) rest)
    unfolding model.rows
    rows-neat zero g b rest k = k
    rows-neat (suc n) g b rest k =
        ih (T.row (g 0)) (bounded.rows (g 0) (b 0 (omega arith))) _ (rows-neat n (λ i. g (suc i)) (λ i h. b (suc i) (omega arith)) rest k)

    contents-neat : (c : rows.Content) → ContentFine P c → Neat (contents f T.row c)
    unfolding contents value
    contents-neat rows.Content.empty h = tt
    contents-neat (rows.Content.simple kind b c) h = λ v ts w i. tt
    contents-neat (rows.Content.particles i) h = ih (T.row i) (bounded.rows i h) done tt

    within-neat : (t : ℕ) → t < T.types → Neat (within T f t)
    unfolding within
    within-neat t h = attributes-neat (T.attributes t) (contents f T.row (T.content t)) (contents-neat (T.content t) (bounded.contents t h))

    due-neat : (r : Row) → RowFine T P r → (rest : Plan) → Neat rest → Neat (due T f r rest)
    unfolding due
    due-neat (Row.element name type row) h rest k = one-neat name _ (λ t. within T f t) rest h within-neat k
    due-neat (Row.sequence first count) h rest k = rows-neat count (λ i. first + i) (λ i g. omega arith) rest k
    due-neat (Row.choice first count) h rest k =
        λ v ts w i. let g = picked_value count i in ih (T.row (first + v)) (bounded.rows (first + v) (omega (arith, h.0))) rest k
    due-neat (Row.occurs child least most) h rest k = λ v ts w i. rows-neat v (λ j. child) (λ j g. h.0) rest k

  plan-neat : (d : ℕ) (r : Row) → RowFine T P r → (rest : Plan) → Neat rest → Neat (plan T d r rest)
  unfolding plan
  plan-neat zero r h rest k = tt
  plan-neat (suc d) r h rest k = due-neat (plan T d) (plan-neat d) r h rest k

pub right-neat : {l : List ℕ} {party name type : ℕ} → Entered l party name type → (casting : Bool) → Neat (plan_of l name type casting)
right-neat {l} {name} {type} h casting =
    let T = table_in casting (table_of l) in
    let P = particles_in l in
    let bounded = right-bounded l h.table_right casting in
    one-neat T P bounded name (only type) (λ t. within T (plan T (most_open - 1)) t) done (only-fine T.types type h.type_known)
    (within-neat T P bounded (plan T (most_open - 1)) (plan-neat T P bounded (most_open - 1))) tt
