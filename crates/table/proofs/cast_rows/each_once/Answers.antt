-- `each_once`: after i turns the type and i entries have the stamp, and no other number; none of them stands twice.
use Prim.Native.Nat.{◌<◌}
use mathlib.Core.Path.{◌≡◌, sym}
use native.Mathlib.Omega.{arith}
use Rattle.numbers.specs.Limit.{most_types}
use Rattle.table.proofs.Once.{once-first, stamped-first, repeated, stamped-next, once-next, entry-known}
use Rattle.table.proofs.cast_rows.each_once.Goals as goal

pub loop-i-init : goal.loop-i-init
loop-i-init c = (omega arith, once-first _ _ _, stamped-first _ _ _ _ c.requires.3 c.requires.1)

pub bounds-stamps-x : goal.bounds-stamps-x
bounds-stamps-x c = entry-known _ _ _ _ _ c.requires.2 c.loop-i-test.true c.word-x.ensures

pub returns-then-stamps-x : goal.returns-then-stamps-x
returns-then-stamps-x c =
    let loop = c.loop-i in
    let so = loop.invariant.2 in
    let known : c.word-x.result < most_types = entry-known _ _ _ _ _ c.requires.2 c.loop-i-test.true c.word-x.ensures in
    record {
      once = repeated _ _ _ loop.i _ _ so _ c.word-x.ensures known _ c.loop-i-test.true c.if-stamps-x.true;
      stamped = so.under;
    }

pub bounds-stamps-x-in-loop-i : goal.bounds-stamps-x-in-loop-i
bounds-stamps-x-in-loop-i c = entry-known _ _ _ _ _ c.requires.2 c.loop-i-test.true c.word-x.ensures

pub loop-i-preserved : goal.loop-i-preserved
loop-i-preserved c =
    let loop = c.loop-i in
    let so = loop.invariant.2 in
    let known : c.word-x.result < most_types = entry-known _ _ _ _ _ c.requires.2 c.loop-i-test.true c.word-x.ensures in (
      omega arith,
      once-next _ _ _ loop.i _ _ so _ c.word-x.ensures known c.if-stamps-x.false loop.invariant.1,
      stamped-next _ _ _ loop.i _ _ so _ c.word-x.ensures known,
    )

pub returns : goal.returns
returns c =
    let loop = c.loop-i in
    let all : c.args.count ≡ loop.i = omega arith in
    record { once = sym (rw all loop.invariant.1); stamped = loop.invariant.2.under }
