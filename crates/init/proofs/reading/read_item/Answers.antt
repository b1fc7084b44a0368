use mathlib.Core.Path.{refl}
use Rattle.std.proofs.lemmas.Result.{err_from_is_err_and}
use Rattle.init.proofs.ReadWays.{item-stops, place-lies, next-lies, slot-fits, item-goes}
use Rattle.init.proofs.reading.read_item.Goals as goal

pub words_of-w-requires : goal.words_of-w-requires
words_of-w-requires c = place-lies c.args.st _ _ _ _ c.row-item.ensures.item c.requires.goes c.item_in.ensures.is _ c.in_ok-found.was c.requires.few

pub store_item-requires : goal.store_item-requires
store_item-requires c = let pre = c.requires in record {
  room = slot-fits c.args.st _ _ _ _ c.row-item.ensures.item pre.goes c.item_in.ensures.is _ c.in_ok-found.was _ _ c.words_of-w.ensures c.row-item.ensures.slot _ refl pre.lies;
  lies = next-lies c.args.st _ _ _ _ c.row-item.ensures.item pre.goes c.item_in.ensures.is _ c.in_ok-found.was pre.lies;
}

pub returns-in_err-found-clause-turned : goal.returns-in_err-found-clause-turned
returns-in_err-found-clause-turned c = let p = err_from_is_err_and c.from_residual.result c.from_residual.ensures.1 in
    rw (p.1, p.2) (item-stops c.args.st _ _ _ _ c.row-item.ensures.item c.requires.goes c.item_in.ensures.is _ c.in_err-found.was _ _)

pub returns-clause-turned : goal.returns-clause-turned
returns-clause-turned c = item-goes c.args.st _ _ _ _ c.row-item.ensures.item c.requires.goes c.item_in.ensures.is _ c.in_ok-found.was _ _ c.words_of-w.ensures c.row-item.ensures.slot _ _ _ _ _ c.store_item.ensures.carried
