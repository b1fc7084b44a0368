-- A list that the grammar has: the word `valid` does not mention the writer.
use Rattle.std.specs.Prelude.{ℕ, ◌+◌, ◌/◌, ◌<◌, ◌≡◌, true, List, ◌∷◌, map, length}
use Rattle.table.specs.Rows.{table_of, held_of}
use Rattle.model.specs.Model.{Nodes, events, texts}
use Rattle.model.specs.Items.{Mode}
use Rattle.model.specs.Grammar.{Is}
use Rattle.model.specs.Write.{bare}
use Rattle.model.specs.Plain.{NoBlank}
use Rattle.model.specs.Pack.{pack}
use Rattle.model.specs.Whole.{mode_byte}
use Rattle.model.specs.Entries.{Entered, plan_of, Shaped, list_of}
use Rattle.theorems.specs.Shortest.{flag_bits, AllShortest}

-- a list of events and its texts, for a table, a root and a mode: by the grammar some bits are a tree without a Blank whose events these are,
-- but for their fourth words, and whose texts these are. Of the trees that a list has, as TheLength may be padded, it is the one whose lengths are shortest
pub record Valid (l : List ℕ) (party name type : ℕ) (mode : Mode) (L X : List ℕ) : Type 0 where
  pub enters : Entered l party name type
  pub shape : Shaped L
  -- type codes are sent only by a table with derivations
  pub casts : mode.casting ≡ true → 0 < (table_of l).derivations
  pub tree : Nodes
  pub bits : List ℕ
  pub is : Is mode.lengths (held_of l party) (plan_of l name type mode.casting) 8 tree bits
  pub no-blank : NoBlank (events tree)
  pub shortest : AllShortest (flag_bits mode.lengths) (events tree)
  pub list : list_of L ≡ map bare (events tree)
  pub text : X ≡ texts tree

-- its payload: the mode byte, the bits, zeros; and how many bytes that is
abbrev pub payload_of : Mode → List ℕ → List ℕ
payload_of mode w = mode_byte mode ∷ pack w

abbrev pub bytes_for : List ℕ → ℕ
bytes_for w = 1 + (length w + 7) / 8
