use Rattle.std.proofs.Common.{rules}
use Rattle.shelf.proofs.Ways.{used-most}
use Rattle.shelf.proofs.judge.alone.Goals as goal

pub rest_zero-requires : goal.rest_zero-requires
rest_zero-requires c = search (rules, used-most)
