use Rattle.table.proofs.Casts.{one-paired, one-alone}
use Rattle.table.proofs.rows.listed.Goals as goal

pub returns-then-list : goal.returns-then-list
returns-then-list c = search one-paired

pub returns : goal.returns
returns c = search one-alone
