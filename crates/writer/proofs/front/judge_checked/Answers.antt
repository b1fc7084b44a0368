-- By the first thing wrong.
use native.Mathlib.Omega.{arith}
use Rattle.writer_parts.proofs.PutWays.{put-kept, put-left}
use Rattle.writer.proofs.FrontLaws.{checked-ways, front-mode, front-type, front-name, front-parts, front-many, front-fine}
use borrow.Author.Rules.{rules}
use Rattle.writer.proofs.front.judge_checked.Goals as goal
use Rattle.writer.proofs.front.judge_checked.Goals.{then-types-by-via-then-types-by, then-types-by-via-else-types-by+then-by-gt-MOST_NAME, then-events-ne0-via-then-events-ne0, then-events-ne0-via-else-events-ne0+then-at-gt-MOST_EVENTS}

pub returns-then-types-by : goal.returns-then-types-by
returns-then-types-by c =
    elim c.then-types-by.branch [
      | then-types-by-via-then-types-by w ↦ front-type _ _ _ _ _ _ c.requires _ c.types.ensures w.if-types-by.true
      | then-types-by-via-else-types-by+then-by-gt-MOST_NAME w ↦ front-name _ _ _ _ _ _ c.requires _ c.types.ensures w.if-types-by.false w.if-by-gt-MOST_NAME.true
    ]

pub returns-then-by-ge-PARTIES : goal.returns-then-by-ge-PARTIES
returns-then-by-ge-PARTIES c = search (rules, checked-ways)

pub returns-in_err-mode : goal.returns-in_err-mode
returns-in_err-mode c =
    let l = put-left 0 _ (λ e x k. search rules) c.mode_of.result c.map_err.ensures.cases c.in_err-mode.was _ c.from_residual.ensures.1 in
    rw l.2 (front-mode _ _ _ _ _ _ c.requires _ c.types.ensures c.if-types-by.false c.if-by-gt-MOST_NAME.false c.if-by-ge-PARTIES.false _ c.mode_of.ensures l.0 l.1)

pub returns-then-events-ne0 : goal.returns-then-events-ne0
returns-then-events-ne0 c =
    elim c.then-events-ne0.branch [
      | then-events-ne0-via-then-events-ne0 w ↦ front-parts _ _ _ _ _ _ c.requires _ c.types.ensures c.if-types-by.false c.if-by-gt-MOST_NAME.false c.if-by-ge-PARTIES.false _ c.mode_of.ensures _ (put-kept _ _ c.map_err.ensures.cases c.in_ok-mode.was) (omega (arith, w.if-events-ne0.true))
      | then-events-ne0-via-else-events-ne0+then-at-gt-MOST_EVENTS w ↦
          front-many _ _ _ _ _ _ c.requires _ c.types.ensures c.if-types-by.false c.if-by-gt-MOST_NAME.false c.if-by-ge-PARTIES.false _ c.mode_of.ensures _ (put-kept _ _ c.map_err.ensures.cases c.in_ok-mode.was) (omega (arith, w.if-events-ne0.false)) w.if-at-gt-MOST_EVENTS.true
    ]

pub returns : goal.returns
returns c =
    front-fine _ _ _ _ _ _ c.requires _ c.types.ensures c.if-types-by.false c.if-by-gt-MOST_NAME.false c.if-by-ge-PARTIES.false _ c.mode_of.ensures _ (put-kept _ _ c.map_err.ensures.cases c.in_ok-mode.was) (omega (arith, c.if-events-ne0.false)) c.if-at-gt-MOST_EVENTS.false
