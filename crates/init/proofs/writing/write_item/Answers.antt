use Rattle.buffers.proofs.BytesLaws.{words-length}
use Rattle.init.proofs.StepWays.{step-ways, item-missing, item-steps}
use borrow.Author.Rules.{rules}
use Rattle.init.proofs.writing.write_item.Goals as goal

pub word_in-requires : goal.word_in-requires
word_in-requires c = search (rules, step-ways)

pub word_in-requires-in-Some : goal.word_in-requires-in-Some
word_in-requires-in-Some c = search (rules, step-ways)

pub invariant_of-entry : goal.invariant_of-entry
invariant_of-entry c = record { near = search (rules, step-ways) }

pub returns-in-None : goal.returns-in-None
returns-in-None c = item-missing _ _ _ _ _ _ _ c.row-item.ensures.item c.row-item.ensures.slot (words-length _) c.requires.goes _ c.uses.ensures _ c.args.message.now c.in-None.is

pub returns-in-Some : goal.returns-in-Some
returns-in-Some c = let pre = c.requires in
    let r = c.row-item in
    item-steps _ _ _ _ _ _ _ r.ensures.item r.ensures.slot (words-length _) pre.goes c.uses.result c.uses.ensures _ _ _ _ _ _ c.write_words.result c.word_in.ensures c.word_in-in-Some.ensures
    c.index.ensures pre.used c.write_words.ensures c.in-Some.is
