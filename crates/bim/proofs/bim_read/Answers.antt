-- `bim_read`: area_size, or the reading of bytes told in the area; and each byte of the payload is one.
use native.Mathlib.Omega.{arith}
use Rattle.bim.proofs.CallWays.{read-unlent, read_told_lem, octets}
use borrow.Author.Rules.{rules}
use Rattle.bim.proofs.bim_read.Goals as goal

pub returns-then-area-ne-AREA : goal.returns-then-area-ne-AREA
returns-then-area-ne-AREA c = let a = c.args in
    let k = c.shared_slice_known-2-1 in record {
      answer = rw c.number.ensures (read-unlent _ _ _ _ _ a.events.now a.texts.now a.area.now _ _ _ c.if-area-ne-AREA.true c.clear.ensures
          c.clear-then-area-ne-AREA.ensures c.clear-then-area-ne-AREA-2.ensures);
      octets = octets a.payload.now (λ i. omega (arith, k.given i));
    }

pub returns : goal.returns
returns c = let k = c.shared_slice_known-2-1 in
    record { answer = search (rules, read_told_lem); octets = octets c.args.payload.now (λ i. omega (arith, k.given i)) }
