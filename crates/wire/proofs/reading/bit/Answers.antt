-- A bit is its byte's quotient, modulo 2.
use Rattle.wire.specs.Bits.{bit_at}
use borrow.Author.Rules.{rules}
use Rattle.wire.proofs.reading.bit.Goals as goal

pub returns : goal.returns
unfolding bit_at
returns c = search rules
