-- `particle`: one test, then those of `unused`.
use Rattle.table.proofs.Tests.{test-ways}
use Rattle.table.specs.Valid.{particles_words}
use Rattle.table.proofs.type_rows.particle.Goals as goal

pub returns-then-particles-a : goal.returns-then-particles-a
unfolding particles_words
returns-then-particles-a c = search test-ways depth 12

pub returns : goal.returns
unfolding particles_words
returns c = search test-ways depth 12
