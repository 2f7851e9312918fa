use Rattle.std.proofs.Common.{arith, length}
use Rattle.jz_alloc.proofs.Bounds.{below_at}
use Rattle.jz_alloc.proofs.tables.meets_row.Goals as goal

pub leave_fit-requires : goal.leave_fit-requires
leave_fit-requires c = (below_at c.args.ops.now (length c.args.kinds.now) _ c.loop-op.op-index c.op-item.result c.requires (omega arith) c.op-item.is (omega arith)).needs
