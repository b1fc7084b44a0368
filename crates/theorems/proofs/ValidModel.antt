-- VALID BY THE TABLE ALONE, both ways. `Demand2.Valid` says by the grammar which lists are to be written: some bits are
-- a tree of this list. Here a list is valid exactly when table and root are right, type codes are sent only for a table
-- with derivations, it has whole events and at most 2,048 of them, none is a Blank, and it follows the table's content
-- models with its texts (`Content.Model`, which names no bits and no code). So no plan, code or grammar is narrower
-- than the table, and none is wider.
use Prim.Native.Nat.{ℕ, ◌-◌, ◌/◌}
use mathlib.Core.Path.{◌≡◌, ◌∙◌}
use mathlib.Core.Logic.{◌↔◌}
use mathlib.Core.List.{List}
use native.Mathlib.Omega.{arith}
use lib.ListN.{length}
use Rattle.numbers.specs.Limit.{most_open}
use Rattle.table.specs.Rows.{Table, table_of, held_of}
use Rattle.table.specs.Words.{particles_in}
use Rattle.model.specs.Model.{only, events, table_in}
use Rattle.model.specs.Items.{Mode}
use Rattle.theorems.proofs.Lists.{bare-none, none_bare}
use Rattle.theorems.specs.Follows.{Follows}
use Rattle.theorems.proofs.FollowsModel.{row-model, one-model}
use Rattle.theorems.proofs.Bounded.{only-fine, right-bounded}
use Rattle.theorems.proofs.ModelIs.{model_is}
use Rattle.model.specs.Whole.{mode_number, roomed, spent, written, writing}
use Rattle.model.proofs.Entries.{events-length, mode-asked, writing-entered}
use Rattle.theorems.specs.Demand2.{Valid}
use Rattle.theorems.proofs.Demand2.{valid-bits, any-valid}

module _ (l : List ℕ) (party name type : ℕ) (mode : Mode) (L X : List ℕ) where
  -- the table as the mode has it, and the rows that the root lets be open inside it
  abbrev T : Table
  T = table_in mode.casting (table_of l)

  abbrev depth : ℕ
  depth = most_open - 1

  pub valid-follows : Valid l party name type mode L X → Follows l party name type mode L X
  valid-follows h = record {
    enters = h.enters;
    casts = h.casts;
    shape = h.shape;
    no-blank = rw h.list (bare-none (events h.tree) h.no-blank);
    model =
        let rows = row-model mode.lengths (held_of l party) T depth in
        rw (h.list, h.text)
        (one-model mode.lengths (held_of l party) T depth rows name (only type) 8 h.tree h.bits h.is);
  }

  pub follows-valid : Follows l party name type mode L X → Valid l party name type mode L X
  follows-valid h =
      let few = h.shape.few in
      let count = events-length L 0 (length L / 4) in
      let bounded = right-bounded l h.enters.table_right mode.casting in
      let root = only-fine (table_of l).types type h.enters.type_known in
      let s = model_is mode.lengths (held_of l party) T (particles_in l) bounded h.model root (omega arith) in
      let p = s.placed 8 in
      let none = none_bare (events p.tree) (rw p.list at h.no-blank) in
      (any-valid l party name type mode L X h.enters h.shape h.casts p.is none p.list p.text).valid

  -- THE THEOREM
  pub valid-model : Valid l party name type mode L X ↔ Follows l party name type mode L X
  valid-model = (valid-follows, follows-valid)

  -- so whatever follows the models is written, as the bits that it has by the grammar, and refused for nothing but lack
  -- of room (21)
  pub follows-written : (room : ℕ) (h : Follows l party name type mode L X)
      → writing l party name type (mode_number mode) L X room ≡ roomed room mode (follows-valid h).bits
  unfolding written spent
  follows-written room h =
      let asked = mode-asked (table_of l).derivations mode h.casts in
      writing-entered l party name type (mode_number mode) L X room mode h.enters asked h.shape
      ∙ rw (valid-bits l party name type mode L X (follows-valid h))
