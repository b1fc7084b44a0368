-- Each answer is a way of proofs/EnterWays.
use borrow.Author.Rules.{rules}
use Rattle.reader.proofs.Asked.{asked-ways, type-held, content-inside}
use Rattle.reader.proofs.EnterWays.{fill_stop, fill_end, fill-rows, no_rows}
use Rattle.reader.proofs.entering.fill.Goals as goal

pub lead_before_rows-s-requires : goal.lead_before_rows-s-requires
lead_before_rows-s-requires c = search (rules, asked-ways)

pub returns-in_default : goal.returns-in_default
returns-in_default c = search (rules, fill_stop)

pub content-k-requires : goal.content-k-requires
content-k-requires c = search (type-held, c.requires.0, c.requires.1)

pub returns-in_default-k : goal.returns-in_default-k
returns-in_default-k c = search (fill_end, no_rows c.content-k.result c.in_default-k.not-Particles _ c.content-k.ensures, c.requires.0, c.requires.1, c.lead_before_rows-s.ensures, c.in-Ok.is, c.close.ensures, c.filled-in_default-k.ensures)

pub particle-p-requires : goal.particle-p-requires
particle-p-requires c = search (content-inside, c.requires.0, c.requires.1, c.content-k.ensures, c.in-Particles.is)

pub returns : goal.returns
returns c = search (fill-rows, c.requires.0, c.requires.1, c.lead_before_rows-s.ensures, c.in-Ok.is, c.content-k.ensures, c.in-Particles.is, c.particle-p.ensures, c.with_rows-x.ensures)
