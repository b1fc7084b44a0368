-- Plans one after another, for the proofs of code: a function reads one row, and its caller goes on with the rest. Laws of `after`.
use Prim.Native.Nat.{ℕ, zero, suc, ◌+◌, ◌-◌}
use mathlib.Core.Path.{◌≡◌, refl, sym, ap, ◌∙◌}
use mathlib.Core.List.{List, [], ◌∷◌}
use mathlib.Core.Bool.{Bool, true, false}
use native.Mathlib.Omega.{arith}
use Rattle.wire.specs.Res.{Res, got, fault}
use Rattle.table.specs.Rows.{Row, Attribute, Table}
use Rattle.model.specs.Model.{event_of, Plan, Nodes, Path, Answer, tree_slots, tree_bytes, ◌then◌, value, maybe, attribute, attributes, rows, due, plan}
use Rattle.model.specs.Model.Plan.{done, deep, item, element}
use Rattle.model.specs.Model.Item.{optional, picked, counted}
use Rattle.model.specs.Model.Nodes.{none}
use Rattle.model.specs.Model.Answer.{given, refused}
use Rattle.model.specs.Items.{Lengths, item_at}
use Rattle.model.specs.Read.{Room, room_less, onto, after, code, stored, element_at, read}
use Rattle.model.proofs.Trees.{then-none, then-assoc, slots-then, bytes-then}

pub less_then : (r : Room) (a b : Nodes) → room_less r (a then b) ≡ room_less (room_less r a) b
less_then r a b =
    let s : r.slots - tree_slots (a then b) ≡ r.slots - tree_slots a - tree_slots b = omega (arith, slots-then a b) in
    let t : r.bytes - tree_bytes (a then b) ≡ r.bytes - tree_bytes a - tree_bytes b = omega (arith, bytes-then a b) in
    λ i. record { slots = s i; bytes = t i }

pub less_none : (r : Room) → room_less r none ≡ r
unfolding tree_slots tree_bytes
less_none r =
    let s : r.slots - 0 ≡ r.slots = omega arith in
    let t : r.bytes - 0 ≡ r.bytes = omega arith in
    λ i. record { slots = s i; bytes = t i }

pub onto-onto : (a b : Nodes) (o : Answer) → onto (a then b) o ≡ onto a (onto b o)
unfolding onto
onto-onto a b (given ns q) = ap (λ (ms : Nodes). given ms q) (then-assoc a b ns)
onto-onto a b (refused n p π) = refl

pub onto-none : (o : Answer) → onto none o ≡ o
unfolding onto ◌then◌
onto-none (given ns q) = refl
onto-none (refused n p π) = refl

-- nothing first; nothing last; one part after another, either way together
pub after_none : (r : Room) (at : ℕ) (k : Room → ℕ → Answer) → after r (given none at) k ≡ k r at
unfolding after
after_none r at k = onto-none _ ∙ ap (λ (s : Room). k s at) (less_none r)

pub after-done : (r : Room) (o : Answer) → after r o (λ s p. given none p) ≡ o
unfolding after onto
after-done r (given ns q) = ap (λ (ms : Nodes). given ms q) (then-none ns)
after-done r (refused n p π) = refl

pub after-after : (r : Room) (o : Answer) (k l : Room → ℕ → Answer) → after r (after r o k) l ≡ after r o (λ s p. after s (k s p) l)
unfolding after onto
after-after r (refused n p π) k l = refl
after-after r (given ns q) k l = go (k (room_less r ns) q)
  where
    go : (o : Answer) → after r (onto ns o) l ≡ onto ns (after (room_less r ns) o l)
    go (given ms p) = rw (less_then r ns ms) (onto-onto ns ms (l (room_less (room_less r ns) ms) p))
    go (refused n p π) = refl

pub code-after : {A : Type 0} (r : Room) (c : Res A) (π : Path) (at : ℕ) (k : A → Answer) (l : Room → ℕ → Answer)
    → after r (code c π at k) l ≡ code c π at (λ a. after r (k a) l)
unfolding code after
code-after r (got a) π at k l = refl
code-after r (fault n) π at k l = refl

unfoldable pub join : Plan → Plan → Plan
join done Q = Q
join deep Q = deep
join (item i k) Q = item i (λ v. join (k v) Q)
join (element name type f rest) Q = element name type f (join rest Q)

pub join-join : (P Q R : Plan) → join (join P Q) R ≡ join P (join Q R)
unfolding join
join-join done Q R = refl
join-join deep Q R = refl
join-join (item i k) Q R = λ j. item i (λ v. join-join (k v) Q R j)
join-join (element name type f rest) Q R = ap (element name type f) (join-join rest Q R)

pub join-done : (P : Plan) → join P done ≡ P
unfolding join
join-done done = refl
join-done deep = refl
join-done (item i k) = λ j. item i (λ v. join-done (k v) j)
join-done (element name type f rest) = ap (element name type f) (join-done rest)

module _ (b : ℕ → ℕ) (mode : Lengths) (held : ℕ → Bool) where
  pub read_join : (P Q : Plan) (r : Room) (π : Path) (wall at : ℕ)
      → read b mode held (join P Q) r π wall at ≡ after r (read b mode held P r π wall at) (λ s p. read b mode held Q s π wall p)
  unfolding read join after
  read_join done Q r π wall at = sym (after_none r at (λ s p. read b mode held Q s π wall p))
  read_join deep Q r π wall at = refl
  read_join (item i k) Q r π wall at =
      let L : Room → ℕ → Answer = λ s p. read b mode held Q s π wall p in
      let S : ℕ × List ℕ × ℕ → Answer = λ x. stored r π at (event_of i x.0 (x.2 - at)) x.1 x.2 in
      (λ j. code (item_at i b wall at) π at (λ x. after r (S x) (λ s p. read_join (k x.0) Q s π wall p j)))
      ∙ (λ j. code (item_at i b wall at) π at (λ x. sym (after-after r (S x) (λ s p. read b mode held (k x.0) s π wall p) L) j))
      ∙ sym (code-after r (item_at i b wall at) π at (λ x. after r (S x) (λ s p. read b mode held (k x.0) s π wall p)) L)
  read_join (element name type f rest) Q r π wall at =
      let O : Answer = element_at b mode held (λ t s ρ w p. read b mode held (f t) s ρ w p) name type r π wall at in
      (λ j. after r O (λ s p. read_join rest Q s π wall p j))
      ∙ sym (after-after r O (λ s p. read b mode held rest s π wall p) (λ s p. read b mode held Q s π wall p))

-- a row and the rest is the row, then the rest
abbrev pub Joins : (Row → Plan → Plan) → Type 0
Joins f = (row : Row) (rest : Plan) → f row rest ≡ join (f row done) rest

pub rows_join : (f : Row → Plan → Plan) → Joins f → (n : ℕ) (g : ℕ → Row) (rest : Plan) → rows f n g rest ≡ join (rows f n g done) rest
unfolding rows join
rows_join f h zero g rest = refl
rows_join f h (suc n) g rest =
    let tail : Plan = rows f n (λ i. g (suc i)) done in
    h (g 0) (rows f n (λ i. g (suc i)) rest)
    ∙ ap (join (f (g 0) done)) (rows_join f h n (λ i. g (suc i)) rest)
    ∙ sym (join-join (f (g 0) done) tail rest)
    ∙ ap (λ (P : Plan). join P rest) (sym (h (g 0) tail))

due-join : (T : Table) (f : Row → Plan → Plan) → Joins f → Joins (due T f)
unfolding due join
due-join T f h (Row.element name type row) rest = refl
due-join T f h (Row.sequence first count) rest = rows_join f h count (λ i. T.row (first + i)) rest
due-join T f h (Row.choice first count) rest = λ j. item (picked count) (λ v. h (T.row (first + v)) rest j)
due-join T f h (Row.occurs child least most) rest = λ j. item (counted least most) (λ v. rows_join f h v (λ i. T.row child) rest j)

pub plan-join : (T : Table) (d : ℕ) → Joins (plan T d)
unfolding plan join
plan-join T zero row rest = refl
plan-join T (suc d) row rest = due-join T (plan T d) (plan-join T d) row rest

pub attribute-join : (t : Bool) (a : Attribute) (rest : Plan) → attribute t a rest ≡ join (attribute t a done) rest
unfolding attribute value join maybe
attribute-join true a rest = refl
attribute-join false a rest = λ j. item (optional a.name) (λ v. go v j)
  where
    go : (v : ℕ) → maybe v (value a.simple a.b a.c rest) rest ≡ join (maybe v (value a.simple a.b a.c done) done) rest
    go zero = refl
    go (suc v) = refl

pub attributes-join : (l : List Attribute) (rest : Plan) → attributes l rest ≡ join (attributes l done) rest
unfolding attributes join
attributes-join [] rest = refl
attributes-join (a ∷ l) rest =
    attribute-join a.must a (attributes l rest)
    ∙ ap (join (attribute a.must a done)) (attributes-join l rest)
    ∙ sym (join-join (attribute a.must a done) (attributes l done) rest)
    ∙ ap (λ (P : Plan). join P rest) (sym (attribute-join a.must a (attributes l done)))
