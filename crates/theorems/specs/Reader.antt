-- What it is to be the reading of a payload.
use Rattle.std.specs.Prelude.{ℕ, List}
use Rattle.table.specs.Rows.{table_of, held_of}
use Rattle.model.specs.Model.{Nodes}
use Rattle.model.specs.Items.{Mode}
use Rattle.theorems.specs.Payload.{PayloadIs}
use Rattle.model.specs.Whole.{room_of}
use Rattle.model.specs.Entries.{Entered, plan_of}

module _ (l : List ℕ) (party name type : ℕ) (s : List ℕ) (words bytes : ℕ) (mode : Mode) (ns : Nodes) (used : ℕ) where
  -- table and root are right; the payload is the mode byte, bits that the grammar lets stand for this tree, and padding; there is room
  pub record IsReading : Type 0 where
    pub enters : Entered l party name type
    pub is : PayloadIs (held_of l party) (plan_of l name type) (table_of l).derivations s (room_of words bytes) mode ns used
