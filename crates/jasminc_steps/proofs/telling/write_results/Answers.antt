use Rattle.std.proofs.Common.{arith, ap, length}
use Rattle.jz_text.proofs.NextLines.{next_line}
use Rattle.jasminc_steps.specs.Telling.{result_line}
use Rattle.jasminc_steps.proofs.telling.write_results.Goals as goal

pub loop-ret-preserved : goal.loop-ret-preserved
loop-ret-preserved c =
    let same = c.as_slice-ret-items.ensures in
    next_line (result_line c.args.state.now) c.args.rets.now c.as_slice-ret-items.result.now c.loop-ret.ret-index c.ret-item.result
    c.ret-item.result c.args.text.now.items c.loop-ret.text.items c.write_result_of.new.text.items same (omega (arith, ap length same))
    c.loop-ret.invariant c.in_ok-write_result_of.ensures c.ret-item.is
