-- The octets that are laid so far are the first j: the 16 from `at` on are, and those before `at` were.
use mathlib.Core.Path.{refl}
use native.Mathlib.Omega.{arith}
use Rattle.std.proofs.lemmas.Bool.{and_parts}
use Rattle.reader_parts.proofs.TextWays.{far_none, far-all, far-block, laid_none, laid-all, laid-block}
use borrow.Author.Rules.{rules}
use Rattle.reader_parts.proofs.values.move_octets.Goals as goal

pub loop-j-init : goal.loop-j-init
loop-j-init c = (refl, omega arith, omega arith, omega arith, laid_none _ _ _ _ _, far_none _ _ _)

pub loop-j-preserved : goal.loop-j-preserved
loop-j-preserved c = let l = c.loop-j in
    let m = c.block-plain.ensures in (
      search rules,
      search rules,
      search rules,
      search rules,
      laid-block _ _ _ l.j _ _ _ _ _ _ (omega arith) (omega arith) l.invariant.4 m,
      far-block _ _ _ l.j _ _ _ _ l.plain _ _ (omega arith) l.invariant.5 m (and_parts _ _),
    )

pub returns : goal.returns
returns c = let l = c.loop-j in
    laid-all _ _ _ l.j _ _ _ _ l.plain (omega arith) (omega arith) l.invariant.4 (far-all _ _ _ l.j _ l.plain (omega arith) l.invariant.5)
