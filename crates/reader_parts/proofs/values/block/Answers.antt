-- The octets are held, and then laid; those seen so far are printable, where `plain` still says so.
use mathlib.Core.Path.{refl}
use native.Mathlib.Omega.{arith}
use lib.ListN.{length-set}
use Rattle.std.proofs.lemmas.Bool.{and_parts}
use Rattle.reader_parts.proofs.TextWays.{held_more, far_none, far-more, laid-held}
use Rattle.reader_parts.proofs.values.block.Goals as goal

pub loop-j-init : goal.loop-j-init
loop-j-init c = (refl, omega arith, (λ m h. absurd (omega arith)), far_none _ _ _)

pub loop-j-preserved : goal.loop-j-preserved
loop-j-preserved c = let l = c.loop-j in
    let o = c.octet-x.ensures in (
      simp length-set (omega arith),
      omega arith,
      held_more _ _ _ l.held l.j _ l.invariant.0 (omega arith) l.invariant.2 o,
      far-more _ _ _ l.j _ l.plain _ _ l.invariant.3 o c.printable-plain.ensures (and_parts _ _),
    )

pub returns : goal.returns
returns c = let l = c.loop-j in
    laid-held _ _ _ l.held _ l.j _ _ _ l.plain c.loop-j-test.false l.invariant.1 (omega arith) c.requires.3 l.invariant.2 c.copy_from_slice.ensures.after l.invariant.3
