use Rattle.std.proofs.Common.{arith, ◌+◌, ◌/◌}
use Rattle.jz_alloc.proofs.Bounds.{below_at, wide_at}
use Rattle.jz_alloc.proofs.tables.taken_row.Goals as goal

pub across-requires : goal.across-requires
across-requires c =
    let w = wide_at c.args.after.now (c.args.count / 64 + 1) c.loop-i.i c.index-after-i.result c.requires.wide (omega arith) c.index-after-i.is in
    below_at c.args.ops.now c.args.count _ c.loop-i.i c.index-ops-i-then-holds.result c.requires.below (omega arith) c.index-ops-i-then-holds.is (omega (arith, w))
