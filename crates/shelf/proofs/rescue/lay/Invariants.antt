use Rattle.std.proofs.Common.{◌≡◌, ◌+◌}
use Rattle.shelf.specs.Judge.{place_of, byte_of}
use Rattle.shelf.specs.Rescue.{laid}
use Rattle.shelf.proofs.rescue.lay.Given as goal

abbrev pub invariant-loop-i : goal.invariant-loop-i
invariant-loop-i l = (l.from ≡ place_of (l.start + l._i)) × (l.to ≡ place_of (l.at + l._i)) × (l.fresh ≡ laid l.initial.fresh l.at (byte_of l.f) l.start l._i)
