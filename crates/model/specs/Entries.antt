-- What an entry of reading or writing asks before it begins, and the plan and the list that it then has.
use Rattle.std.specs.Prelude.{ℕ, ◌/◌, ◌%◌, ◌<◌, ◌≤◌, ◌≡◌, List, Bool, length}
use Rattle.numbers.specs.Limit.{most_events, most_name, parties}
use Rattle.table.specs.First.Verdict.{right}
use Rattle.table.specs.Valid.{verdict}
use Rattle.table.specs.Rows.{table_of}
use Rattle.model.specs.Model.{Plan, table_in, rooted}
use Rattle.model.specs.Write.{Bare}
use Rattle.model.specs.Whole.{events_from}

-- table, root and party are right
pub record Entered (l : List ℕ) (party name type : ℕ) : Type 0 where
  pub table_right : verdict l ≡ right
  pub type_known : type < (table_of l).types
  pub name-small : name ≤ most_name
  pub party_known : party < parties

-- the plan goes by whether type codes are sent
module _ (l : List ℕ) (name type : ℕ) where
  abbrev pub plan_of : Bool → Plan
  plan_of casting = rooted (table_in casting (table_of l)) name type

-- whole events, at most most_events of them
pub record Shaped (L : List ℕ) : Type 0 where
  pub whole : length L % 4 ≡ 0
  pub few : length L / 4 ≤ most_events

abbrev pub list_of : List ℕ → List Bare
list_of L = events_from L 0 (length L / 4)
