-- `read_input`: too short, too many words, all there.
use Rattle.std.proofs.Common.{arith}
use Rattle.list.proofs.Inputs.{too_short, too_many, all_there}
use Rattle.list.proofs.listing.read_input.Goals as goal

pub returns-then-size-lt8 : goal.returns-then-size-lt8
returns-then-size-lt8 c = too_short _ _ _ _ _ c.args.input.now (omega arith) c.unread.ensures

pub returns-then-n-gt-MOST_TABLE_WORDS : goal.returns-then-n-gt-MOST_TABLE_WORDS
returns-then-n-gt-MOST_TABLE_WORDS c = too_many _ _ _ _ _ c.args.input.now (omega arith) c.unread-then-n-gt-MOST_TABLE_WORDS.ensures

pub returns-then-size-n : goal.returns-then-size-n
returns-then-size-n c = too_short _ _ _ _ _ c.args.input.now (omega arith) c.unread-then-size-n.ensures

pub returns : goal.returns
returns c = all_there _ _ _ _ _ c.args.input.now _ c.word-n.ensures (omega arith) (omega arith) c.read_parts.ensures
