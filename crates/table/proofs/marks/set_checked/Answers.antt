-- `set_checked`: the type, the party, then the word.
use borrow.Author.Rules.{rules}
use Rattle.table.proofs.Parties.{set-ways}
use Rattle.table.proofs.marks.set_checked.Goals as goal

pub returns-then-known-t : goal.returns-then-known-t
returns-then-known-t c = search (rules, set-ways)

pub returns-then-party-ge-PARTIES : goal.returns-then-party-ge-PARTIES
returns-then-party-ge-PARTIES c = search (rules, set-ways)

pub marked-requires : goal.marked-requires
marked-requires c = search (rules, set-ways)

pub bounds-table-i : goal.bounds-table-i
bounds-table-i c = search (rules, set-ways)

pub bounds-table-i-2 : goal.bounds-table-i-2
bounds-table-i-2 c = search (rules, set-ways)

pub returns : goal.returns
returns c = search (rules, set-ways)
