-- `check`: the order of the check, most of it by hand, since `search` loses its way in so many facts.
use Rattle.table.proofs.FirstLaws.{told}
use Rattle.table.proofs.Order.{header-wrong, length-wrong, length_over, length-right, types_few, rows-there}
use Rattle.table.proofs.check.Goals as goal

pub returns-in_err-given : goal.returns-in_err-given
returns-in_err-given c = told _ _ _ c.from_residual.ensures.1 (header-wrong _ _ c.given.ensures _ c.in_err-given.was)

pub returns-then-n-size : goal.returns-then-n-size
returns-then-n-size c = length-wrong _ _ c.given.ensures c.in_ok-given.was _ c.counts-counts.ensures.types
    _ _ c.counts-counts.ensures.attributes c.counts-counts.ensures.particles _ c.size-size.ensures c.if-n-size.true

pub returns-then-n-gt-MOST_TABLE_WORDS : goal.returns-then-n-gt-MOST_TABLE_WORDS
returns-then-n-gt-MOST_TABLE_WORDS c = length_over _ _ c.given.ensures c.in_ok-given.was _ c.counts-counts.ensures.types
    _ _ c.counts-counts.ensures.attributes c.counts-counts.ensures.particles _ c.size-size.ensures c.if-n-size.false c.if-n-gt-MOST_TABLE_WORDS.true

pub every_word-requires : goal.every_word-requires
every_word-requires c = (
  types_few _ _ c.given.ensures c.in_ok-given.was _ c.counts-counts.ensures.types,
  rows-there _ _ c.given.ensures c.in_ok-given.was _ c.counts-counts.ensures.types
      _ _ c.counts-counts.ensures.attributes c.counts-counts.ensures.particles _ c.size-size.ensures c.if-n-size.false,
)

pub returns : goal.returns
returns c = length-right _ _ c.given.ensures c.in_ok-given.was _ c.counts-counts.ensures.types
    _ _ c.counts-counts.ensures.attributes c.counts-counts.ensures.particles _ c.size-size.ensures
    c.if-n-size.false c.if-n-gt-MOST_TABLE_WORDS.false _ c.every_word.ensures
