-- `put_number`: the fewest digits are the decimal.
use Rattle.std.proofs.Common.{arith, ap, ◌∙◌, ℕ, List, ◌++◌}
use Rattle.list.proofs.Decimals.{decimal-is}
use Rattle.list.proofs.text.Line.put_number.Goals as goal

pub returns-clause-added : goal.returns-clause-added
returns-clause-added c =
    let a = c.args in
    let d = c.decimal-k.ensures in
    c.put.ensures ∙ ap (λ (z : List ℕ). a.self.now ++ z) (d.digits ∙ decimal-is a.n _ (omega arith) d.len)
