use Rattle.std.proofs.Common.{◌<◌, length, ap, arith}
use Rattle.jz_alloc.proofs.Bounds.{below_at, need_below}
use Rattle.jz_alloc.proofs.order.needy.Goals as goal

pub insert-requires : goal.insert-requires
insert-requires c =
    let b = below_at c.args.ops.now c.args.count c.args.count c.loop-op.op-index c.op-item.result c.requires (omega arith) c.op-item.is (omega arith) in
    let l : c.loop-need.need-index < length c.op-item.result.needs = omega (arith, ap length c.as_slice-need-items.ensures) in
    need_below c.args.count c.as_slice-need-items.result.now c.op-item.result.needs _ c.loop-need.need-index _ c.as_slice-need-items.ensures b.needs l c.loop-need.invariant.0
