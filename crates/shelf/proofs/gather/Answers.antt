use Rattle.std.proofs.Common.{◌≡◌, ◌+◌, ◌-◌, ◌*◌, ◌/◌, refl, arith}
use Rattle.shelf.specs.Block.{bytes_from}
use Rattle.shelf.proofs.Scanning.{gathered-more}
use Rattle.shelf.proofs.gather.Goals as goal

pub loop-i-init : goal.loop-i-init
unfolding bytes_from
loop-i-init c = refl

pub loop-i-preserved : goal.loop-i-preserved
loop-i-preserved c = let a = c.args in
    let v = c.loop-i in
    let e : 498 * v.i + 498 ≡ 498 * (v.i + 1) = omega arith in
    rw e at (gathered-more a.f.now a.records.now v.records _ v.i (498 * v.i) 498 refl (omega arith) (omega arith) v.invariant c.copy_bytes.ensures)

pub returns-then-at-n : goal.returns-then-at-n
returns-then-at-n c = let a = c.args in
    let v = c.loop-i in
    let w = a.n / 498 in
    let z : v.i ≡ w = omega arith in
    let e : 498 * w + (a.n - 498 * w) ≡ a.n = omega arith in
    rw e at (gathered-more a.f.now a.records.now v.records _ w (498 * w) (a.n - 498 * w) refl (omega arith) (omega arith) (rw z at v.invariant) c.copy_bytes-then-at-n.ensures)

pub returns-else-at-n : goal.returns-else-at-n
returns-else-at-n c = let v = c.loop-i in let e : 498 * v.i ≡ c.args.n = omega arith in rw e at v.invariant
