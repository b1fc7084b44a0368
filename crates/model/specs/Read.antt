-- The reading of a plan, with the room that is left, the path, the wall and the place. Refusals, their order and their places are here.
use Rattle.std.specs.Prelude.{ℕ, ◌-◌, List, [], ◌∷◌, Bool, true, false, ltb, leb, eqb, length}
use Rattle.numbers.specs.Refusal as refusal
use Rattle.numbers.specs.Refusal.{event_room, text_room, not_held, content_short}
use Rattle.numbers.specs.Kind as kinds
use Rattle.wire.specs.Res.{Res, got, fault}
use Rattle.model.specs.Model.{Event, event, event_of, Types, codes, Plan, Mark, Nodes, ◌then◌, tree_slots, tree_bytes, Path, Answer}
use Rattle.model.specs.Model.Plan.{done, deep, item, element}
use Rattle.model.specs.Model.Nodes.{none, leaf, node}
use Rattle.model.specs.Model.Answer.{given, refused}
use Rattle.model.specs.Items.{Lengths, item_at, Head, head_at, codes_at}

-- events and text bytes that still have room
pub record Room : Type 0 where
  pub slots : ℕ
  pub bytes : ℕ

abbrev pub room_less : Room → Nodes → Room
room_less r ns = record { slots = r.slots - tree_slots ns; bytes = r.bytes - tree_bytes ns }

abbrev pub less_one : Room → Room
less_one r = record { slots = r.slots - 1; bytes = r.bytes }

unfoldable pub onto : Nodes → Answer → Answer
onto ns (given ms q) = given (ns then ms) q
onto ns (refused n p π) = refused n p π

-- one part after another
unfoldable pub after : Room → Answer → (Room → ℕ → Answer) → Answer
after r (given ns q) k = onto ns (k (room_less r ns) q)
after r (refused n p π) k = refused n p π

-- a leaf's value, or its refusal at the item's place
unfoldable pub code : {A : Type 0} → Res A → Path → ℕ → (A → Answer) → Answer
code (got a) π at k = k a
code (fault n) π at k = refused n at π

-- an event is stored: room for its text comes before its own
unfoldable pub kept : Bool → Bool → Path → ℕ → Event → List ℕ → ℕ → Answer
kept true true π at e ts q = given (leaf at e ts none) q
kept true false π at e ts q = refused event_room at π
kept false u π at e ts q = refused text_room at π

unfoldable pub stored : Room → Path → ℕ → Event → List ℕ → ℕ → Answer
stored r π at e ts q = kept (leb (length ts) r.bytes) (ltb 0 r.slots) π at e ts q

-- the end of an element: its declared end is met, then room for End, with the element still in the path
unfoldable pub met : Bool → ℕ → ℕ → Bool
met true q wall = eqb q wall
met false q wall = true

unfoldable pub ended : Bool → Bool → Mark → Path → ℕ → Nodes → ℕ → Answer
ended true true m π body ns q = given (node m ns none) q
ended true false m π body ns q = refused event_room q (m.name ∷ π)
ended false u m π body ns q = refused content_short body (m.name ∷ π)

unfoldable pub closed : Room → Mark → Path → ℕ → ℕ → Answer → Answer
closed r m π wall body (given ns q) = ended (met m.coded q wall) (ltb 0 (r.slots - tree_slots ns)) m π body ns q
closed r m π wall body (refused n p ρ) = refused n p ρ

-- how what is inside an element is read, by its type
abbrev pub Into : Type 0
Into = ℕ → Room → Path → ℕ → ℕ → Answer

-- the event of an element's codes, where a flag bit was sent, from body up to p
unfoldable pub cast_at : Bool → ℕ → ℕ → Room → Path → ℕ → ℕ → Answer
cast_at true type substitute r π body p = stored r π body (event kinds.cast type substitute (p - body)) [] p
cast_at false type substitute r π body p = given none p

-- an element that is held: room for Start, its codes' event, what is inside, the end
unfoldable pub entered : Bool → Bool → Into → Mark → ℕ → Room → Path → ℕ → ℕ → ℕ → Answer
entered true sent f m k r π wall body p =
    closed (less_one r) m π wall body
    (after (less_one r) (cast_at sent m.type k (less_one r) (m.name ∷ π) body p) (λ s q. f m.type s (m.name ∷ π) wall q))
entered false sent f m k r π wall body p = refused event_room m.at π

abbrev pub mark : ℕ → ℕ → Bool → ℕ → ℕ → Mark
mark name type coded at body = record { name = name; type = type; coded = coded; at = at; bits = body - at }

-- without a length: held, or 9
unfoldable pub bare : Bool → Bool → Into → Mark → ℕ → Room → Path → ℕ → ℕ → ℕ → Answer
bare true sent f m k r π wall body p = entered (ltb 0 r.slots) sent f m k r π wall body p
bare false sent f m k r π wall body p = refused not_held m.at π

-- with a length: held, or a Blank
unfoldable pub sized : Bool → Bool → Into → Mark → ℕ → Room → Path → ℕ → ℕ → ℕ → Answer
sized true sent f m k r π end body p = entered (ltb 0 r.slots) sent f m k r π end body p
sized false sent f m k r π end body p = stored r π m.at (event kinds.blank m.name m.type (end - m.at)) [] end

module _ (b : ℕ → ℕ) (mode : Lengths) (held : ℕ → Bool) where
  -- after the head: the codes, below the element's own end where it has one, an item of their own; then Start, a Blank or a refusal
  unfoldable pub opened : Into → ℕ → Types → Room → Path → ℕ → ℕ → Head → Answer
  opened f name y r π wall at (Head.bare body) =
      code (codes_at y b wall body) π body
      (λ (t, k, p). bare (held t) (codes y) f (mark name t false at body) k r π wall body p)
  opened f name y r π wall at (Head.sized body end) =
      code (codes_at y b end body) π body
      (λ (t, k, p). sized (held t) (codes y) f (mark name t true at body) k r π end body p)

  unfoldable pub element_at : Into → ℕ → Types → Room → Path → ℕ → ℕ → Answer
  element_at f name y r π wall at = code (head_at mode b wall at) π at (opened f name y r π wall at)

  unfoldable pub read : Plan → Room → Path → ℕ → ℕ → Answer
  read done r π wall at = given none at
  read deep r π wall at = refused refusal.depth at π
  read (item i k) r π wall at =
      code (item_at i b wall at) π at
      (λ (v, ts, q). after r (stored r π at (event_of i v (q - at)) ts q) (λ s p. read (k v) s π wall p))
  read (element name y inside rest) r π wall at =
      after r (element_at (λ t s ρ w p. read (inside t) s ρ w p) name y r π wall at) (λ s p. read rest s π wall p)
