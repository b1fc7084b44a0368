-- Two readings that are one.
use Rattle.std.specs.Prelude.{ℕ, ◌≡◌, List}
use Rattle.model.specs.Model.{Item, Types, Plan, Nodes}
use Rattle.model.specs.Model.Plan.{done, deep, item, element}

pub record Same (ns ms : Nodes) (p q : ℕ) (w x : List ℕ) : Type 0 where
  pub trees : ns ≡ ms
  pub next : p ≡ q
  pub bits : w ≡ x

-- P is Q, but for places where P has no more rows
pub data Under : Plan → Plan → Type 0 where
  at_deep : {Q : Plan} → Under deep Q
  at_done : Under done done
  at_item : {i : Item} {k l : ℕ → Plan} → ((v : ℕ) → Under (k v) (l v)) → Under (item i k) (item i l)
  at_element : {name : ℕ} {y : Types} {f g : ℕ → Plan} {P Q : Plan} → ((t : ℕ) → Under (f t) (g t)) → Under P Q → Under (element name y f P) (element name y g Q)
