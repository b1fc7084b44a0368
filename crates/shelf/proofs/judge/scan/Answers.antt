use Rattle.std.proofs.Common.{◌∙◌, ap, arith, rules}
use Rattle.std.proofs.lemmas.Result.{err_from_is_err_and}
use Rattle.std.specs.Result.{result_ok}
use Rattle.shelf.proofs.Scanning.{fine-kept, told-at, scan-refuse, scan-off, scan-end, scan-part, scan-on, next-fewer, next_past, scan-start, used-none-so, used-most-so}
use Rattle.shelf.proofs.judge.scan.Goals as goal

pub loop-i-init : goal.loop-i-init
loop-i-init c = (omega arith, λ h. omega arith, scan-start _)

pub in_step-requires : goal.in_step-requires
in_step-requires c = let v = c.loop-i in
    let f = c.args.f.now in
    let z = fine-kept f v.i-counter c.reason.result c.map_err.ensures.variant c.reason.ensures c.in_ok-map_err.was in record {
      block = search rules;
      used = used-none-so f v.i-counter z;
      most = used-most-so f v.i-counter z;
      first = v.invariant.0;
      reached = v.invariant.1 (omega arith);
    }

pub returns-in_err-map_err : goal.returns-in_err-map_err
returns-in_err-map_err c = let v = c.loop-i in
    let f = c.args.f.now in
    let p = err_from_is_err_and c.from_residual.result c.from_residual.ensures.1 in
    rw (p.1, p.2)
    (scan-refuse f v.i-counter v.reached.place v.reached.count v.invariant.2 (omega arith) _
    (told-at f v.i-counter _ (λ e x k. search rules) c.reason.result c.map_err.ensures.cases c.reason.ensures c.in_err-map_err.was))

pub returns-in_err-reached : goal.returns-in_err-reached
returns-in_err-reached c = let v = c.loop-i in
    let f = c.args.f.now in
    let z = fine-kept f v.i-counter c.reason.result c.map_err.ensures.variant c.reason.ensures c.in_ok-map_err.was in
    let p = err_from_is_err_and c.from_residual-in_err-reached.result c.from_residual-in_err-reached.ensures.1 in
    rw (p.1, p.2)
    (scan-off f v.i-counter v.reached.place v.reached.count v.invariant.2 (omega arith) z c.in_step.result c.in_step.ensures _ c.ok_or.ensures.value c.ok_or.ensures.ok_part c.in_err-reached.was)

pub loop-i-preserved : goal.loop-i-preserved
loop-i-preserved c = let v = c.loop-i in
    let f = c.args.f.now in
    let i = v.i-counter in
    let p = v.reached.place in
    let n = v.reached.count in
    let s = c.in_step.result in
    let z = fine-kept f i c.reason.result c.map_err.ensures.variant c.reason.ensures c.in_ok-map_err.was in
    let k = c.ok_or.ensures.ok_part ∙ ap result_ok c.in_ok-reached.was in
    let r = c.in_ok-reached.reached in (
      next-fewer f i p n s r z c.in_step.ensures k v.invariant.0,
      next_past f i p n s r z c.in_step.ensures k,
      scan-on f i p n v.invariant.2 (omega arith) z s c.in_step.ensures r k,
    )

pub returns-then-f-eq0 : goal.returns-then-f-eq0
returns-then-f-eq0 c = search (rules, scan-end)

pub returns : goal.returns
returns c = search (rules, scan-part)
