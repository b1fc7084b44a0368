-- Trees one after another, their counts, and the counts as those of the flattening.
use Prim.Native.Nat.{◌+◌}
use mathlib.Core.Path.{◌≡◌, refl, ap}
use mathlib.Core.List.{List, [], ◌∷◌, ◌++◌, append_assoc}
use native.Mathlib.Omega.{arith}
use lib.ListN.{length, length-append}
use Rattle.model.specs.Model.{Event, end, Nodes, ◌then◌, events, texts, tree_slots, tree_bytes, tree_bits}
use Rattle.model.specs.Model.Nodes.{none, leaf, node}
use Rattle.model.specs.Trees.{total}

pub then-none : (a : Nodes) → a then none ≡ a
unfolding ◌then◌
then-none none = refl
then-none (leaf at e ts r) = ap (leaf at e ts) (then-none r)
then-none (node m i r) = ap (node m i) (then-none r)

pub then-assoc : (a b c : Nodes) → (a then b) then c ≡ a then (b then c)
unfolding ◌then◌
then-assoc none b c = refl
then-assoc (leaf at e ts r) b c = ap (leaf at e ts) (then-assoc r b c)
then-assoc (node m i r) b c = ap (node m i) (then-assoc r b c)

pub bits-then : (a b : Nodes) → tree_bits (a then b) ≡ tree_bits a + tree_bits b
unfolding tree_bits ◌then◌
bits-then none b = omega arith
bits-then (leaf at e ts r) b = let ih = bits-then r b in omega arith
bits-then (node m i r) b = let ih = bits-then r b in omega arith

pub slots-then : (a b : Nodes) → tree_slots (a then b) ≡ tree_slots a + tree_slots b
unfolding tree_slots ◌then◌
slots-then none b = omega arith
slots-then (leaf at e ts r) b = let ih = slots-then r b in omega arith
slots-then (node m i r) b = let ih = slots-then r b in omega arith

pub bytes-then : (a b : Nodes) → tree_bytes (a then b) ≡ tree_bytes a + tree_bytes b
unfolding tree_bytes ◌then◌
bytes-then none b = omega arith
bytes-then (leaf at e ts r) b = let ih = bytes-then r b in omega arith
bytes-then (node m i r) b = let ih = bytes-then r b in omega arith

pub events-then : (a b : Nodes) → events (a then b) ≡ events a ++ events b
unfolding events ◌then◌
events-then none b = refl
events-then (leaf at e ts r) b = rw (events-then r b)
events-then (node m i r) b = rw (events-then r b, append_assoc)

pub texts-then : (a b : Nodes) → texts (a then b) ≡ texts a ++ texts b
unfolding texts ◌then◌
texts-then none b = refl
texts-then (leaf at e ts r) b = rw (texts-then r b, append_assoc)
texts-then (node m i r) b = rw (texts-then r b, append_assoc)

-- the counts are those of the flattening
pub slots_length : (ns : Nodes) → tree_slots ns ≡ length (events ns)
unfolding tree_slots events
slots_length none = refl
slots_length (leaf at e ts r) = let h = slots_length r in omega arith
slots_length (node m i r) =
    let h = slots_length i in
    let g = slots_length r in
    omega (arith, length-append (events i) (end ∷ events r))

pub bytes-length : (ns : Nodes) → tree_bytes ns ≡ length (texts ns)
unfolding tree_bytes texts
bytes-length none = refl
bytes-length (leaf at e ts r) = let h = bytes-length r in omega (arith, length-append ts (texts r))
bytes-length (node m i r) =
    let h = bytes-length i in
    let g = bytes-length r in
    omega (arith, length-append (texts i) (texts r))

pub total-append : (l m : List Event) → total (l ++ m) ≡ total l + total m
unfolding total
total-append [] m = omega arith
total-append (e ∷ l) m = let h = total-append l m in omega arith

pub bits-total : (ns : Nodes) → tree_bits ns ≡ total (events ns)
unfolding tree_bits events total
bits-total none = refl
bits-total (leaf at e ts r) = let h = bits-total r in omega arith
bits-total (node m i r) =
    let h = bits-total i in
    let g = bits-total r in
    omega (arith, total-append (events i) (end ∷ events r))
