use Rattle.std.proofs.Common.{arith}
use Rattle.jz_alloc.proofs.Bounds.{below_at}
use Rattle.jz_fit.proofs.wants.wants_of.Goals as goal

pub add_needs-requires : goal.add_needs-requires
add_needs-requires c =
    let b = below_at c.args.ops.now c.args.count c.args.count c.loop-op.op-index c.op-item.result c.requires c.loop-op-test.true c.op-item.is (omega arith) in
    λ k d l. let h = b.needs k d l in omega (arith, h, c.loop-op.invariant.0)
