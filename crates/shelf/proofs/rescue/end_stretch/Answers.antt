use native.Mathlib.Omega.{arith}
use Rattle.shelf.specs.Answers.{reason_of}
use Rattle.shelf.specs.Rescue.{known_of}
use Rattle.shelf.proofs.Gathers.{ended}
use Rattle.shelf.proofs.rescue.end_stretch.Goals as goal

pub returns-clause-gathered : goal.returns-clause-gathered
returns-clause-gathered c = let a = c.args in
    let s = a.s in
    ended a.f.now s.first a.last (reason_of a.reason) (known_of s.known) s.tally a.fresh.now a.list.now c.keep-kept.ensures (grind arith) c.lay.ensures c.list_stretch.ensures.listed c.list_bad.ensures.listed
