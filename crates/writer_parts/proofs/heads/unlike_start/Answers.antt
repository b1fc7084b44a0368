-- By the kind, then by the first word that differs.
use Rattle.writer_parts.proofs.HeadWays.{start-name, start-flag, start-like}
use Rattle.writer_parts.proofs.JudgingWays.{kind-fine, word-first, word-second}
use Rattle.writer_parts.proofs.heads.unlike_start.Goals as goal

pub returns-then-name-e : goal.returns-then-name-e
returns-then-name-e c =
    let k = kind-fine c.of_kind.ensures.0 _ c.in_ok-e.was in
    start-name _ _ _ k _ (word-first c.of_kind.ensures.1 _ c.in_ok-e.was) (word-second c.of_kind.ensures.1 _ c.in_ok-e.was) _ c.if-name-e.true

pub returns-then-flag_wrong : goal.returns-then-flag_wrong
returns-then-flag_wrong c =
    let k = kind-fine c.of_kind.ensures.0 _ c.in_ok-e.was in
    start-flag _ _ _ k _ (word-first c.of_kind.ensures.1 _ c.in_ok-e.was) (word-second c.of_kind.ensures.1 _ c.in_ok-e.was) c.if-name-e.false _ _ c.flag_wrong.ensures c.if-flag_wrong.true

pub returns : goal.returns
returns c =
    let k = kind-fine c.of_kind.ensures.0 _ c.in_ok-e.was in
    start-like _ _ _ k _ (word-first c.of_kind.ensures.1 _ c.in_ok-e.was) (word-second c.of_kind.ensures.1 _ c.in_ok-e.was) c.if-name-e.false _ _ c.flag_wrong.ensures c.if-flag_wrong.false
