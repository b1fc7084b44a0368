-- The state is the one after the octets passed, and `found` tells whether one of them is a control character.
use native.Mathlib.Omega.{arith}
use Rattle.utf8.proofs.SlantedLaws.{judged-none, judged-skip, judged-more, judged-all}
use borrow.Author.Rules.{rules}
use Rattle.utf8.proofs.slanted.text_fault.Goals as goal

pub loop-i-init : goal.loop-i-init
loop-i-init c = (omega arith, omega arith, judged-none _ _ _)

pub loop-i-preserved-then-i-to : goal.loop-i-preserved-then-i-to
loop-i-preserved-then-i-to c =
    let inv = c.loop-i.invariant in
    let skip = c.skip-i.ensures in
    let here = judged-skip _ _ _ _ _ _ _ _ inv.0 inv.2 skip in (
      omega (arith, skip),
      omega arith,
      judged-more _ _ _ _ _ _ _ _ _ (omega (arith, skip)) here c.octet-x.ensures c.step-state.ensures c.control-found.ensures,
    )

pub loop-i-preserved : goal.loop-i-preserved
loop-i-preserved c = let inv = c.loop-i.invariant in
    let skip = c.skip-i.ensures in
    (omega arith, omega arith, judged-skip _ _ _ _ _ _ _ _ inv.0 inv.2 skip)

pub returns : goal.returns
returns c = search (rules, judged-all)
