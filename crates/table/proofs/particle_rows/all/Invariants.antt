-- `all`: after p turns the rows from p on are left.
use Rattle.table.specs.Words.{particle_at, word_at}
use Rattle.table.specs.Valid.{particle_row}
use Rattle.table.proofs.Turns.{Left}
use Rattle.table.proofs.particle_rows.all.Given as goal

abbrev pub invariant-loop-p : goal.invariant-loop-p
invariant-loop-p l = Left (particle_at l.counts.types l.counts.attributes) (particle_row (word_at l.table) l.counts.types l.counts.attributes l.counts.particles) l.counts.particles l.p
