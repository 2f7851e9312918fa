use Rattle.std.proofs.Common.{arith, ap, length}
use Rattle.jz_text.proofs.NextLines.{next_line}
use Rattle.jasminc_selfrun.specs.Summary.{value_line}
use Rattle.jasminc_selfrun.proofs.summing.write_values.Goals as goal

pub loop-ret-preserved : goal.loop-ret-preserved
loop-ret-preserved c =
    let same = c.as_slice-ret-items.ensures in
    next_line (value_line c.args.state.now) c.args.rets.now c.as_slice-ret-items.result.now c.loop-ret.ret-index c.ret-item.result
    c.ret-item.result c.args.text.now.items c.loop-ret.text.items c.write_value.new.text.items same (omega (arith, ap length same))
    c.loop-ret.invariant c.in_ok-write_value.ensures c.ret-item.is
