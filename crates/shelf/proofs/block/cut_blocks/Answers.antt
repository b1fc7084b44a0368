use Rattle.std.proofs.Common.{◌≡◌, ◌+◌, ◌-◌, ◌*◌, ◌∙◌, arith, rules}
use borrow.Rule.Slice.PartMut.{mid_len}
use Rattle.shelf.proofs.Cutting.{cut-none, cut-more, cut-end}
use Rattle.shelf.proofs.Following.{walk_none, walk_at, on-next, on-end}
use Rattle.shelf.proofs.block.cut_blocks.Goals as goal

pub loop-i-init : goal.loop-i-init
loop-i-init c = (cut-none _ _ _, walk_none _ _)

pub cut_block-w-requires : goal.cut_block-w-requires
cut_block-w-requires c = let v = c.loop-i in
    let q = c.requires in
    let e : 512 * v.i + 512 - 512 * v.i ≡ 512 = omega arith in record {
      whole = mid_len (512 * v.i) (512 * v.i + 512) v.file (omega arith) ∙ e;
      begun = omega arith;
      count = omega arith;
      walked = walk_at _ _ v.i v.invariant.1 (omega arith);
    }

pub loop-i-preserved : goal.loop-i-preserved
loop-i-preserved c = let v = c.loop-i in
    let a = c.args in
    let p = c.cut_block-w in (
      cut-more _ _ v.i a.file.now v.file _ (omega arith) v.invariant.0 p.ensures.made,
      on-next _ _ v.i (omega arith) p.ensures.followed,
    )

pub returns : goal.returns
returns c = record { made = search (rules, cut-end); followed = search (rules, on-end) }
