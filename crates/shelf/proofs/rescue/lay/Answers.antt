use Rattle.std.proofs.Common.{rules}
use Rattle.shelf.proofs.Lays.{place-few-at, laid_none, laid_more, next_place, laid_end, place-start, place-in, place-few}
use Rattle.shelf.proofs.rescue.lay.Goals as goal

pub loop-i-init : goal.loop-i-init
loop-i-init c = search (rules, laid_none, place-start)

pub bounds-f-from : goal.bounds-f-from
bounds-f-from c = search (rules, place-in)

pub place_after-from-requires : goal.place_after-from-requires
place_after-from-requires c = search (rules, place-few)

pub place_after-to-requires : goal.place_after-to-requires
place_after-to-requires c = search (rules, place-few-at)

pub loop-i-preserved : goal.loop-i-preserved
loop-i-preserved c = let v = c.loop-i in
    let a = c.args in (
      next_place a.start v._i v.invariant.0 c.place_after-from.ensures,
      next_place a.at v._i v.invariant.1 c.place_after-to.ensures,
      laid_more a.f.now a.fresh.now v.fresh _ a.at a.start v._i v.invariant.2 v.invariant.0 v.invariant.1 c.put.ensures,
    )

pub returns : goal.returns
returns c = search (rules, laid_end)
