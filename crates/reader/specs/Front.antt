-- The mode byte as the code finds it.
use Rattle.std.specs.Prelude.{ℕ, ◌≡◌, Bool, List, Result, Ok, Err}
use Rattle.numbers.specs.Refused.{number_of}
use Rattle.numbers.specs.declared.refusal.Refusal.{Refusal}
use Rattle.wire.specs.Res.{Res, got, fault}
use Rattle.table.specs.Rows.{table_of}
use Rattle.model.specs.Items as items
use Rattle.model.specs.Modes.{lengths_is, mode_is, Choosing}
use Rattle.model.specs.Whole.{mode, mode_of}
use Rattle.model.specs.declared.Lengths.{Lengths}
use Rattle.model.specs.declared.Mode.{Mode}

-- a mode, or why it is refused
abbrev pub Found : Type 0
Found = Result Mode Refusal

unfoldable pub found_is : Found → Res items.Mode
found_is (Ok m) = got (mode_is m)
found_is (Err e) = fault (number_of e)

-- who looks for no substitutes has a table without any; and it is this party's mode
abbrev pub Chooses : List ℕ → (party : ℕ) → Found → Type 0
Chooses l party (Ok m) = Choosing l m.choices × (m.party ≡ party)
Chooses l party (Err e) = Unit {0}

-- the mode of a length coding, by a table
pub record Makes (l : List ℕ) (party : ℕ) (lengths : Lengths) (derived : Bool) (m : Mode) : Type 0 where
  pub says : found_is (Ok m) ≡ got (mode (lengths_is lengths) derived)
  pub choosing : Chooses l party (Ok m)

-- the mode of a payload, by a table
pub record Finds (l : List ℕ) (party : ℕ) (s : List ℕ) (r : Found) : Type 0 where
  pub says : found_is r ≡ mode_of (table_of l).derivations s
  pub choosing : Chooses l party r
