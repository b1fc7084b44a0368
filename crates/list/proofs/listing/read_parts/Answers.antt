-- `read_parts`: what is lent to the reader is what the listing reads.
use Rattle.std.proofs.Common.{arith, refl, ◌+◌, ◌*◌, ◌-◌, take, drop, length-take, length-drop}
use Rattle.list.proofs.Inputs.{parts-read}
use Rattle.buffers.proofs.BytesLaws.{loaded-front}
use Rattle.list.proofs.listing.read_parts.Goals as goal

pub returns : goal.returns
returns c =
    let a = c.args in
    let part = take (4 + 4 * a.n - 4) (drop 4 a.input.now) in
    let loaded = loaded-front part _ _ a.n c.load.ensures (simp (length-take, length-drop) (omega arith)) in
    parts-read _ _ _ _ _ a.input.now a.n _ (4 + 4 * a.n) (4 + 4 * a.n + 4) _ _ _ (omega arith) refl (omega arith) c.payload_end-to.ensures loaded
    c.half-root_name.ensures c.half-root_type.ensures c.read.ensures
