-- What a plan lets stand (001, 8.4 and 8.5; each case names its clause): a tree and its bits, related. The tree's places are counted from the place at; there is no
-- source, no wall, no room and no order of refusals. Four cases, and none for `deep`.
use Rattle.std.specs.Prelude.{ℕ, ◌+◌, ◌<◌, ◌≡◌, Bool, true, false, cond, List, [], ◌∷◌, ◌++◌, length}
use Rattle.numbers.specs.Kind as kinds
use Rattle.model.specs.Model.{event, Item, event_of, Types, codes, Plan, Mark, Nodes}
use Rattle.model.specs.Model.Plan.{done, item, element}
use Rattle.model.specs.Model.Nodes.{none, leaf, node}
use Rattle.model.specs.Items.{Lengths, ItemIs, Length, long, coded, Measures, HeadIs, CodesAre}

abbrev pub Bits : List ℕ → Type 0
Bits [] = Unit
Bits (x ∷ l) = (x < 2) × Bits l

-- an element's Start, of n bits
abbrev pub opens : ℕ → ℕ → Length → ℕ → ℕ → Mark
opens name type h at n = record { name = name; type = type; coded = coded h; at = at; bits = n }

-- the event of the codes stands first inside an element, where a flag bit is sent: effective type, substitute, the bits of both
unfoldable pub cast_in : Types → ℕ → ℕ → ℕ → ℕ → Nodes → Nodes
cast_in y at type substitute n i = cond (codes y) (leaf at (event kinds.cast type substitute n) [] i) i

pub data Is (mode : Lengths) (held : ℕ → Bool) : Plan → ℕ → Nodes → List ℕ → Type 0 where
  -- a final state: the content's decoding is finished (001, 8.5.2.3)
  nothing : {at : ℕ} → Is mode held done at none []
  -- an item's code, then the rest by its value: an attribute's flag or value (001, 8.5.3), a simple content (8.4.6.1), a code transition or
  -- a loop's count (8.5.2.4.1, 8.5.2.4.3)
  an_item : {i : Item} {k : ℕ → Plan} {at v : ℕ} {ts w x : List ℕ} {r : Nodes} → ItemIs i v ts w → Is mode held (k v) (at + length w) r x
      → Is mode held (item i k) at (leaf at (event_of i v (length w)) ts r) (w ++ x)
  -- Mono-VersionElementContent (001, 8.4.2.1): a head, then the type's Attributes and Content, which are as long as TheLength says
  -- (8.4.2.2: it counts what follows itself); then the rest
  an_element : {name t k : ℕ} {y : Types} {f : ℕ → Plan} {P : Plan} {at : ℕ} {h : Length} {s c w x : List ℕ} {i r : Nodes}
      → HeadIs mode h s → CodesAre y t k c → held t ≡ true → Is mode held (f t) (at + length (s ++ c)) i w → Measures h (length (c ++ w))
      → Is mode held P (at + length (s ++ (c ++ w))) r x
      → Is mode held (element name y f P) at (node (opens name t h at (length s)) (cast_in y (at + length s) t k (length c) i) r) ((s ++ (c ++ w)) ++ x)
  -- document 01's Blank, of a type that is not held: the same head, with TheLength, and so many bits that nobody looks into; then the rest
  a_blank : {name t k : ℕ} {y : Types} {f : ℕ → Plan} {P : Plan} {at : ℕ} {s c x : List ℕ} {r : Nodes} (w : List ℕ)
      → HeadIs mode (long (length (c ++ w))) s → CodesAre y t k c → held t ≡ false → Bits w → Is mode held P (at + length (s ++ (c ++ w))) r x
      → Is mode held (element name y f P) at (leaf at (event kinds.blank name t (length (s ++ (c ++ w)))) [] r) ((s ++ (c ++ w)) ++ x)
