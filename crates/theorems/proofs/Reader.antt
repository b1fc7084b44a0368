-- READER, of the entry `reading`, over words and bytes: it gives a list exactly when the grammar has it and rows, walls and room suffice; the list
-- follows the content models, its Blanks stand where they should, and its bits add up.
use Prim.Native.Nat.{ℕ, ◌+◌, ◌-◌, ◌*◌, ◌≤◌}
use mathlib.Core.Path.{◌≡◌, ◌∙◌}
use mathlib.Core.List.{List, map}
use native.Mathlib.Omega.{arith}
use lib.ListN.{length}
use Rattle.numbers.specs.Limit.{most_events, most_open}
use Rattle.table.specs.Rows.{table_of, held_of}
use Rattle.model.specs.Model.{Nodes, events, texts, only, table_in}
use Rattle.model.specs.Items.{Mode}
use Rattle.model.specs.Trees.{total}
use Rattle.model.proofs.Trees.{slots_length, bytes-length}
use Rattle.model.specs.Write.{bare}
use Rattle.theorems.specs.Content.{one, Model}
use Rattle.theorems.proofs.FollowsModel.{row-model, one-model}
use Rattle.model.specs.Blanks.{Exact}
use Rattle.model.proofs.Blanks.{is-exact}
use Rattle.theorems.proofs.Payload.{payload-found, payload-reads}
use Rattle.model.specs.Whole.{accepted, room_of, reading}
use Rattle.model.specs.Entries.{plan_of}
use Rattle.model.proofs.Entries.{reading-entered, reading-found}
use Rattle.theorems.proofs.Demand2.{sum-used}
use Rattle.theorems.specs.Reader.{IsReading}

module _ (l : List ℕ) (party name type : ℕ) (s : List ℕ) (words bytes : ℕ) (mode : Mode) (ns : Nodes) (used : ℕ) where
  pub reading-sound : reading l party name type s words bytes ≡ accepted mode ns used → IsReading l party name type s words bytes mode ns used
  reading-sound e =
      let f = reading-found l party name type s words bytes mode ns used e in
      record { enters = f.enters; is = payload-found (held_of l party) (plan_of l name type) (table_of l).derivations s (room_of words bytes) mode ns used f.reads }

  pub reading-complete : (IsReading l party name type s words bytes mode ns used) → reading l party name type s words bytes ≡ accepted mode ns used
  reading-complete h =
      reading-entered l party name type s words bytes h.enters ∙ payload-reads (held_of l party) (plan_of l name type) (table_of l).derivations s (room_of words bytes) mode ns used h.is

  module _ (e : reading l party name type s words bytes ≡ accepted mode ns used) where
    -- content models and occurrence bounds, values of their kinds, held marks, flags, at most 64 rows open
    pub list-follows : Model (table_in mode.casting (table_of l)) mode.lengths (held_of l party) (most_open - 1) (one name (only type)) (map bare (events ns)) (texts ns)
    list-follows =
        let f = (reading-sound e).is.found in
        let T = table_in mode.casting (table_of l) in
        one-model mode.lengths (held_of l party) T (most_open - 1) (row-model mode.lengths (held_of l party) T (most_open - 1)) name (only type) 8 ns f.bits f.is

    -- a Blank only of a type that is not held, an opened element only of one that is
    pub blanks-exact : Exact (held_of l party) ns
    blanks-exact = is-exact (reading-sound e).is.found.is

    pub bits-add-up : 8 + total (events ns) ≡ used
    bits-add-up = sum-used l party name type s words bytes mode ns used e

    -- what is given fits the lent buffers, and what is used the payload
    pub record Fitting : Type 0 where
      pub few : length (events ns) ≤ most_events
      pub words-suffice : 4 * length (events ns) ≤ words
      pub bytes-suffice : length (texts ns) ≤ bytes
      pub payload-suffices : used ≤ 8 * length s

    pub list-fits : Fitting
    list-fits =
        let f = (reading-sound e).is.found in
        let a = slots_length ns in
        let b = bytes-length ns in
        let c = f.slots in
        let d = f.bytes in
        record { few = omega arith; words-suffice = omega arith; bytes-suffice = omega arith; payload-suffices = f.within }
