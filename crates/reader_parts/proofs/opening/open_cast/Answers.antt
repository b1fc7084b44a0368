use Rattle.reader_parts.proofs.OpeningWays.{cast-ways, cast-shut, cast-open}
use borrow.Author.Rules.{rules}
use Rattle.reader_parts.proofs.opening.open_cast.Goals as goal

pub returns-in-Err : goal.returns-in-Err
returns-in-Err c = search (rules, cast-ways)

pub returns-in_default : goal.returns-in_default
returns-in_default c = search (cast-shut, c.of_row-own.ensures, c.codes.ensures, c.in-Ok.is, c.held-held.ensures, c.begin-opened.ensures, c.in_default.not-In)

pub returns-in-Err-tell : goal.returns-in-Err-tell
returns-in-Err-tell c = search (rules, cast-ways)

pub returns-in-Ok-tell : goal.returns-in-Ok-tell
returns-in-Ok-tell c = search (cast-open, c.of_row-own.ensures, c.codes.ensures, c.in-Ok.is, c.held-held.ensures, c.begin-opened.ensures, c.in-In.is, c.tell.ensures, c.in-Ok-tell.is)
