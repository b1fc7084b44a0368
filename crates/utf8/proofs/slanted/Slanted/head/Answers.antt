-- The bits in front tell, where they are there: what is behind them makes no octet of 20 to 7F another.
use native.Mathlib.Omega.{arith}
use Rattle.utf8.proofs.SlantedLaws.{octet-head, octet-exact}
use Rattle.utf8.proofs.slanted.Slanted.head.Goals as goal

pub returns-then-self-lt6 : goal.returns-then-self-lt6
returns-then-self-lt6 c = octet-head _ c.args.self.bytes _ _ (omega arith)

pub returns : goal.returns
returns c = octet-exact _ c.args.self.bytes _ _ _ c.octet.ensures
