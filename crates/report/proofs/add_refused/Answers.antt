-- `add_refused`: one number, which may pass.
use mathlib.Core.List.{[]}
use native.Mathlib.Omega.{arith}
use Rattle.report.proofs.Adding.{refused-stops, refused-counts, refusal-some, refusal-placed}
use Rattle.report.proofs.add_refused.Goals as goal

pub returns-in-None : goal.returns-in-None
returns-in-None c =
    let n = c.number.ensures in
    refused-stops _ (λ k. grind arith) c.requires.goes _ (refusal-some c.args.why) 0 0 [] _ _ (refusal-placed c.args.why) (rw n at c.number-2.ensures) (omega (arith, c.in-None.ensures)) c.put_number.ensures

pub returns-in-Some : goal.returns-in-Some
returns-in-Some c =
    let n = c.number.ensures in
    let m = c.in-Some.ensures in
    refused-counts _ (λ k. grind arith) c.requires.goes _ (refusal-some c.args.why) 0 0 [] _ _ _ (refusal-placed c.args.why) (rw n at c.number-2.ensures) m.0 m.1 (rw n at c.put_number-in-Some.ensures)
