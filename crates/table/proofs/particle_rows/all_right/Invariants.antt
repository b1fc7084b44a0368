-- `all_right`: after p turns the rows before p are right if the joints are.
use Prim.Native.Nat.{◌≤◌}
use mathlib.Core.Path.{◌≡◌}
use Rattle.numbers.specs.Limit.{most_name}
use Rattle.table.specs.Words.{particle_at, word_at}
use Rattle.table.specs.Valid.{particle_row}
use Rattle.table.proofs.Turns.{Left}
use Rattle.table.proofs.particle_rows.all_right.Given as goal

abbrev pub invariant-loop-p : goal.invariant-loop-p
invariant-loop-p l = l.small ≤ most_name → l.zeros ≡ 0 → Left (particle_at l.counts.types l.counts.attributes) (particle_row (word_at l.table) l.counts.types l.counts.attributes l.counts.particles) l.counts.particles l.p
