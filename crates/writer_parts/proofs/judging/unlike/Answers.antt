-- By the kind, then by the first word that differs.
use Rattle.writer_parts.proofs.JudgingWays.{kind-fine, word-first, word-second, unlike-p, unlike-q, like-both}
use Rattle.writer_parts.proofs.judging.unlike.Goals as goal
use Rattle.writer_parts.proofs.judging.unlike.Goals.{then-p-e-via-then-p-e, then-p-e-via-else-p-e+then-q-e}

pub returns-then-p-e : goal.returns-then-p-e
returns-then-p-e c =
    let k = kind-fine c.of_kind.ensures.0 _ c.in_ok-e.was in
    let x = word-first c.of_kind.ensures.1 _ c.in_ok-e.was in
    let y = word-second c.of_kind.ensures.1 _ c.in_ok-e.was in
    elim c.then-p-e.branch [
      | then-p-e-via-then-p-e w ↦ unlike-p _ _ _ _ _ k _ x y w.if-p-e.true
      | then-p-e-via-else-p-e+then-q-e w ↦ unlike-q _ _ _ _ _ k _ x y w.if-p-e.false w.if-q-e.true
    ]

pub returns : goal.returns
returns c =
    let k = kind-fine c.of_kind.ensures.0 _ c.in_ok-e.was in
    let x = word-first c.of_kind.ensures.1 _ c.in_ok-e.was in
    let y = word-second c.of_kind.ensures.1 _ c.in_ok-e.was in
    like-both _ _ _ _ _ k _ x y c.if-p-e.false c.if-q-e.false
