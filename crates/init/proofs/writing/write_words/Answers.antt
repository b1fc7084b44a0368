use Rattle.init.proofs.StepWays.{words-ways, words-stop}
use borrow.Author.Rules.{rules}
use Rattle.init.proofs.writing.write_words.Goals as goal

pub invariant_of-write_value : goal.invariant_of-write_value
invariant_of-write_value c = record { held = search (rules, words-ways) }

pub write_value-requires : goal.write_value-requires
write_value-requires c = search (rules, words-ways)

pub returns-in-Err : goal.returns-in-Err
returns-in-Err c = words-stop _ _ c.args.st _ _ c.args.entry.used _ c.args.message.now c.args.message.now _ c.value_of.ensures.is _ _ c.in-Err.is c.from.ensures

pub returns-in-Ok : goal.returns-in-Ok
returns-in-Ok c = search (rules, words-ways)
