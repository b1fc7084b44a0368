-- `line_of`: the lines passed are neither free nor the name's.
use Prim.Native.Nat.{◌+◌, ◌-◌, ◌*◌}
use mathlib.Core.Path.{◌≡◌}
use Rattle.report.specs.Places.{lines}
use Rattle.report.specs.Report.{line_from, line_of}
use Rattle.report.specs.Sums.{numbers_in}
use Rattle.report.proofs.lines.line_of.Given as goal

abbrev pub invariant-loop-k : goal.invariant-loop-k
invariant-loop-k l = line_of (numbers_in l.s) l.name ≡ line_from (numbers_in l.s) l.name (lines - l.k) (72 + 4 * l.k)
