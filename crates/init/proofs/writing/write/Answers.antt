use native.Mathlib.Omega.{arith}
use Prim.Native.Nat.{◌*◌}
use lib.ListN.{get_or}
use lib.Seq.{length-take-le}
use Rattle.init.proofs.MadeWays.{clear-ways}
use borrow.Author.Rules.{rules}
use Rattle.init.proofs.writing.write.Goals as goal

pub returns-then-codecs-n : goal.returns-then-codecs-n
returns-then-codecs-n c = search (rules, clear-ways)

pub write_cleared-requires : goal.write_cleared-requires
write_cleared-requires c =
    let t = length-take-le (4 * get_or c.args.init.now 7 0) c.args.codecs.now (omega arith) in
    record { count = omega arith; zeros = search (rules, clear-ways) }

pub returns : goal.returns
returns c = search (rules, clear-ways)
