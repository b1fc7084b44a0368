-- A flag before the bits.
use Rattle.writer_parts.proofs.NoteWays.{flag_ways}
use borrow.Author.Rules.{rules}
use Rattle.writer_parts.proofs.notes.flagged.Goals as goal

pub returns : goal.returns
returns c = search (rules, flag_ways)
