-- `root` answers what the reading comes to after the mode byte: accepted, refused with no path or with the path told, or 17. Each answer is a way of specs/Root.
use native.Mathlib.Omega.{arith}
use borrow.Author.Rules.{rules}
use Rattle.reader.proofs.RefusalPathLaws.{err_is}
use Rattle.reader.specs.declared.refusal_path.Halt.TheVariants.{Untold, Told}
use Rattle.reader.proofs.RootLaws.{root-ways, payload-short, root-given, root-refused, root_told, root-left}
use Rattle.reader.proofs.root.Goals as goal
use Rattle.reader.proofs.root.Goals.{in-Err-Untold, in-Err-Told, in-Ok+else-ok}

pub overflow_mul-wall : goal.overflow_mul-wall
overflow_mul-wall c = omega (arith, payload-short _ _ _ c.requires.1)

pub overflow_cast-wall : goal.overflow_cast-wall
overflow_cast-wall c = omega (arith, payload-short _ _ _ c.requires.1)

pub particle-w-requires : goal.particle-w-requires
particle-w-requires c = search (rules, root-ways)

pub padding-ok-requires : goal.padding-ok-requires
padding-ok-requires c = search (rules, root-ways)

pub accepted-requires : goal.accepted-requires
accepted-requires c = search (rules, root-ways)

pub returns-then-ok : goal.returns-then-ok
returns-then-ok c = search (root-given, c.requires.0, c.requires.1, c.requires.3, c.requires.4, c.nowhere-path.ensures, c.particle-w.ensures, c.in-Ok.is, c.padding-ok.ensures, c.if-ok.true, c.accepted.ensures)

pub returns : goal.returns
returns c =
    elim c.match-w.branch [
      | in-Err-Untold w ↦ rw w.refused-is (search (root-refused, c.requires.0, c.requires.1, c.requires.3, c.requires.4, c.nowhere-path.ensures, c.particle-w.ensures, c.particle-w.auto.events, c.particle-w.auto.texts, (err_is (Untold w.in-Err-Untold.fault) w.in-Err-Untold.is (rw w.in-Err-Untold.is at w.in-Err-Untold.field-0-is)), c.both.ensures.0, c.both.ensures.1, w.unopened-refused.ensures))
      | in-Err-Told w ↦ rw w.refused-is (search (root_told, c.requires.0, c.requires.1, c.requires.3, c.requires.4, c.nowhere-path.ensures, c.particle-w.ensures, c.particle-w.auto.events, c.particle-w.auto.texts, (err_is (Told w.in-Err-Told.fault w.in-Err-Told.count) w.in-Err-Told.is (rw w.in-Err-Told.is at w.in-Err-Told.field-0-is)), c.both.ensures.0, c.both.ensures.1))
      | in-Ok+else-ok w ↦ rw w.refused-is (search (root-left, c.requires.0, c.requires.1, c.requires.3, c.requires.4, c.nowhere-path.ensures, c.particle-w.ensures, c.particle-w.auto.events, c.particle-w.auto.texts, w.in-Ok.is, w.padding-ok.ensures, w.if-ok.false, c.both.ensures.0, c.both.ensures.1, w.unopened-refused-in-Ok.ensures))
    ]
