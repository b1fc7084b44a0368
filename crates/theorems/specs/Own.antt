-- An item that is the same in two plans.
use Rattle.std.specs.Prelude.{ℕ, ◌≡◌, List, length}
use Rattle.model.specs.Model.{Item, event_of}

-- an item: the same row and the same bits give the same value and the same texts, so the same event
pub record SameItem (i : Item) (w : List ℕ) (v v' : ℕ) (ts ts' : List ℕ) : Type 0 where
  pub values : v ≡ v'
  pub texts : ts ≡ ts'
  pub events : event_of i v (length w) ≡ event_of i v' (length w)
