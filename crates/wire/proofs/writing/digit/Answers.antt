-- A word has no bit past its 64th.
use Rattle.wire.proofs.WriteWays.{high_digit}
use borrow.Author.Rules.{rules}
use Rattle.wire.proofs.writing.digit.Goals as goal

pub returns-then-k-ge64 : goal.returns-then-k-ge64
returns-then-k-ge64 c = search (rules, high_digit)
