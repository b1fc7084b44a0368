-- Where a walk over one event ends, its note has the bits that were counted.
use Prim.Native.Nat.{ℕ, ◌+◌, ◌-◌, ◌≤◌}
use mathlib.Core.Path.{◌≡◌}
use mathlib.Core.List.{List}
use native.Mathlib.Omega.{arith}
use lib.ListN.{length}
use Rattle.model.specs.Write.{Out}
use Rattle.writer_parts.specs.declared.Spot.{Spot}
use Rattle.std.specs.Prelude.{Ok}
use Rattle.writer_parts.specs.Notes.{spells}
use Rattle.writer_parts.specs.Walk.{Judgement, Walked, Went}

abbrev origin : Spot
origin = record { event = 0; used = 0; bits = 0 }

module _ (L X : List ℕ) (o : Out) (N : List ℕ) (r : Judgement) (M : List ℕ) (w : Walked L X o origin N r M) (e : Spot) (g : r ≡ Ok e) where
  went : Went L X o origin N e M
  went = rw g at w.is

  pub one-bits : e.bits ≡ length (spells X M 0 e.event)
  one-bits =
      let z : e.event - 0 ≡ e.event = omega arith in
      let n : e.bits ≡ 0 + length (spells X M 0 (e.event - 0)) = went.counts in
      let m : e.bits ≡ 0 + length (spells X M 0 e.event) = rw z at n in
      omega arith

  pub one-noted : e.event ≤ length M
  one-noted = let y = went.ready in let a = y.sized in let b = y.inside in omega arith
