-- The end of an element: each way through it; and an element is its Start, its codes, what is inside and its end, one after the other.
use Prim.Native.Nat.{ℕ, ◌+◌, ◌-◌}
use mathlib.Core.Path.{◌≡◌, refl, sym, ap, ◌∙◌}
use mathlib.Core.List.{List, [], ◌∷◌}
use mathlib.Core.Bool.{Bool, true, false, not}
use native.Mathlib.Omega.{arith}
use borrow.Author.Tests.{ltb-true, ltb-false, not-true, not-false}
use lib.Dec.{ltb, eqb}
use Rattle.numbers.specs.Refusal.{content_short}
use Rattle.numbers.specs.Kind as kinds
use Rattle.wire.specs.declared.Bits.{Bits}
use Rattle.model.specs.Model.{Event, start, end, Mark, Nodes, Answer, events, texts, tree_slots, tree_bytes, ◌then◌}
use Rattle.model.specs.Model.Nodes.{none, leaf, node}
use Rattle.model.specs.Model.Answer.{given, refused}
use Rattle.model.specs.Read.{Room, room_less, less_one, onto, after, stored, met, ended, closed, Into, cast_at, entered}
use Rattle.model.proofs.Trees.{slots-then, bytes-then, events-then, texts-then}
use Rattle.reader_parts.specs.declared.Cursor.{Cursor}
use Rattle.std.specs.Prelude.{Err}
use Rattle.numbers.specs.declared.refusal.Refusal.TheVariants as refusal
use Rattle.reader_parts.specs.Out.{Step, room_of, step_view, outcome, Stores, ending, Closes}
use Rattle.reader_parts.proofs.StoreWays.{stored-full, stored-in}

pub meets-coded : (coded : Bool) (at wall : ℕ) → coded ≡ true → eqb at wall ≡ met coded at wall
unfolding met
meets-coded coded at wall h = rw h

pub meets-free : (coded : Bool) (at wall : ℕ) → coded ≡ false → true ≡ met coded at wall
unfolding met
meets-free coded at wall h = rw h

module _ (coded : Bool) (body wall : ℕ) (r : Room) (ρ : List ℕ) (q : ℕ) where
  pub ending-short : met coded q wall ≡ false → ending coded body wall r ρ q ≡ refused content_short body ρ
  unfolding ending
  ending-short h = rw h

  pub ending-met : met coded q wall ≡ true → ending coded body wall r ρ q ≡ stored r ρ q end [] q
  unfolding ending
  ending-met h = rw h

-- close
module _ (coded : Bool) (body : Bits) (wall : ℕ) (c : Cursor) (E : List ℕ) (m : Bool) (e : m ≡ met coded c.at.0 wall) where
  pub close-short : not m ≡ true → Closes coded body.0 wall c E (Err (record { why = refusal.ContentShort; at = body })) E
  unfolding step_view outcome
  close-short h = record { says = λ T π. rw (ending-short coded body.0 wall (room_of E T c) π c.at.0 (sym e ∙ not-true m h)) }

  pub close-met : (s : Step) (E' : List ℕ) → not m ≡ false → Stores kinds.end 0 0 c.at.0 c E s E' → Closes coded body.0 wall c E s E'
  close-met s E' h k =
      let z : c.at.0 - c.at.0 ≡ 0 = omega arith in
      record { says = λ T π. rw (ending-met coded body.0 wall (room_of E T c) π c.at.0 (sym e ∙ not-false m h)) (rw z at (k.says T π)) }

pub ruleset close-ways = (close-short, close-met)

-- trees that leave the same
same_left : (a b : Nodes) (q : ℕ) (c : Cursor) (π E T : List ℕ) → tree_slots a ≡ tree_slots b → tree_bytes a ≡ tree_bytes b → events a ≡ events b → texts a ≡ texts b
    → outcome (given a q) c π E T ≡ outcome (given b q) c π E T
unfolding outcome
same_left a b q c π E T e f g h = rw (e, f, g, h)

module _ (m : Mark) where
  abbrev S : Nodes
  S = leaf m.at (start m) [] none

  -- an element's tree leaves what Start, what is inside and End leave
  node-left : (ns : Nodes) (q : ℕ) (c : Cursor) (π E T : List ℕ)
      → outcome (given (node m ns none) q) c π E T ≡ outcome (onto S (onto ns (given (leaf q end [] none) q))) c π E T
  unfolding onto tree_slots tree_bytes events texts ◌then◌
  node-left ns q c π E T =
      let last : Nodes = leaf q end [] none in
      same_left (node m ns none) _ q c π E T
      (omega (arith, slots-then ns last))
      (omega (arith, bytes-then ns last))
      (sym (ap (λ (l : List Event). start m ∷ l) (events-then ns last)))
      (sym (texts-then ns last))

  less-start : (r : Room) → room_less r S ≡ less_one r
  unfolding tree_slots tree_bytes
  less-start r =
      let s : r.slots - (1 + 0) ≡ r.slots - 1 = omega arith in
      let t : r.bytes - (0 + 0) ≡ r.bytes = omega arith in
      λ i. record { slots = s i; bytes = t i }

  module _ (f : Into) (r : Room) (π : List ℕ) (wall body : ℕ) (c : Cursor) (E T : List ℕ) where
    closed-left : (a : Answer) → outcome (closed (less_one r) m π wall body a) c π E T
        ≡ outcome (onto S (after (less_one r) a (λ u q. ending m.coded body wall u (m.name ∷ π) q))) c π E T
    unfolding closed after onto outcome ended
    closed-left (refused n p ρ) = refl
    closed-left (given ns q) = go (met m.coded q wall) refl (ltb 0 (r.slots - 1 - tree_slots ns)) refl
      where
        R : Room
        R = room_less (less_one r) ns

        go : (b : Bool) → met m.coded q wall ≡ b → (d : Bool) → ltb 0 (r.slots - 1 - tree_slots ns) ≡ d
            → outcome (ended b d m π body ns q) c π E T ≡ outcome (onto S (onto ns (ending m.coded body wall R (m.name ∷ π) q))) c π E T
        go false x d y = rw (ending-short m.coded body wall R (m.name ∷ π) q x)
        go true x false y =
            rw (ending-met m.coded body wall R (m.name ∷ π) q x, stored-full R (m.name ∷ π) q end [] q (omega arith) (omega (arith, ltb-false 0 (r.slots - 1 - tree_slots ns) y)))
        go true x true y =
            rw (ending-met m.coded body wall R (m.name ∷ π) q x, stored-in R (m.name ∷ π) q end [] q (omega arith) (ltb-true 0 (r.slots - 1 - tree_slots ns) y))
            (node-left ns q c π E T)

    -- AN ELEMENT as the code goes it: Start is stored, then its codes' event, what is inside is read, the end is judged and stored
    module _ (sent : Bool) (k p : ℕ) where
      abbrev whole : Room → ℕ → Answer
      whole s q =
          after s (after s (cast_at sent m.type k s (m.name ∷ π) q p) (λ u x. f m.type u (m.name ∷ π) wall x))
          (λ u x. ending m.coded body wall u (m.name ∷ π) x)

      pub entered-left : outcome (entered (ltb 0 r.slots) sent f m k r π wall body p) c π E T ≡ outcome (after r (stored r π m.at (start m) [] body) whole) c π E T
      unfolding entered after
      entered-left = go (ltb 0 r.slots) refl
        where
          go : (d : Bool) → ltb 0 r.slots ≡ d → outcome (entered d sent f m k r π wall body p) c π E T ≡ outcome (after r (stored r π m.at (start m) [] body) whole) c π E T
          go false y = rw (stored-full r π m.at (start m) [] body (omega arith) (omega (arith, ltb-false 0 r.slots y)))
          go true y =
              rw (stored-in r π m.at (start m) [] body (omega arith) (ltb-true 0 r.slots y), less-start r)
              (closed-left (after (less_one r) (cast_at sent m.type k (less_one r) (m.name ∷ π) body p) (λ u x. f m.type u (m.name ∷ π) wall x)))
