-- No such substitute, no such type by it, or both codes.
use Rattle.writer_parts.proofs.CodeWays.{spell_ways}
use borrow.Author.Rules.{rules}
use Rattle.writer_parts.proofs.codes.spell.Goals as goal

pub returns-then-n-q : goal.returns-then-n-q
returns-then-n-q c = search (rules, spell_ways)

pub standing-k-requires : goal.standing-k-requires
standing-k-requires c = search (rules, spell_ways)

pub one_of-one-requires : goal.one_of-one-requires
one_of-one-requires c = search (rules, spell_ways)

pub one_of-two-requires : goal.one_of-two-requires
one_of-two-requires c = search (rules, spell_ways)

pub returns : goal.returns
returns c = search (rules, spell_ways)
