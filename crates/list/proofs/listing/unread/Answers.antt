-- `unread`: a table of no words.
use Rattle.list.proofs.Inputs.{none_read}
use Rattle.list.proofs.listing.unread.Goals as goal

pub returns : goal.returns
returns c = none_read _ _ _ _ _ 0 0 _ c.read.ensures
