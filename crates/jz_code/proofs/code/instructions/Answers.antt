use Rattle.std.proofs.Common.{rules, arith}
use Rattle.jz_code.proofs.Counting.{count_fits}
use Rattle.jz_code.proofs.code.instructions.Goals as goal

pub overflow_add-count : goal.overflow_add-count
overflow_add-count c =
    let h = count_fits c.args.lines.now c.loop-line.line-index _ (search rules) (search rules) c.loop-line.count c.loop-line.invariant c.weight-count.result c.weight-count.ensures in
    omega (arith, h, c.requires)
