-- Two tests tell: of the first bit and of the next two; or, where those lie in the second byte, of what it has.
use mathlib.Core.Bool.{false}
use mathlib.Core.Path.{refl}
use native.Mathlib.Omega.{arith}
use Rattle.utf8.proofs.Look.{refuted}
use Rattle.utf8.proofs.SlantedLaws.{octet-first, octet-second}
use Rattle.utf8.proofs.slanted.Slanted.lone.Goals as goal

pub returns-then-y-self-ne0 : goal.returns-then-y-self-ne0
returns-then-y-self-ne0 c = λ e. refuted false e refl

pub returns-then-self-lt6 : goal.returns-then-self-lt6
returns-then-self-lt6 c = octet-first _ c.args.self.bytes _ _ (omega arith) (omega arith)

pub returns : goal.returns
returns c = octet-second _ c.args.self.bytes _ _ (omega arith) (omega arith) (omega arith)
