-- Two octets in the ranges of UTF8-2.
use native.Mathlib.Omega.{arith}
use Rattle.utf8.proofs.SlantedLaws.{went-pair}
use Rattle.utf8.proofs.slanted.Slanted.pair.Goals as goal

pub returns-in-128-to-191 : goal.returns-in-128-to-191
returns-in-128-to-191 c = λ e. went-pair _ _ _ _ _ (omega arith) (omega arith, omega arith) c.octet-in-194-to-223.ensures (omega arith, omega arith)
