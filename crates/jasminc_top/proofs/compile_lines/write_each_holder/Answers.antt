use Rattle.std.proofs.Common.{arith, ap, length}
use Rattle.jz_text.proofs.NextLines.{next_line}
use Rattle.jasminc_top.specs.CompileLines.{holder_text}
use Rattle.jasminc_top.proofs.compile_lines.write_each_holder.Goals as goal

pub loop-holder-preserved : goal.loop-holder-preserved
loop-holder-preserved c =
    let same = c.as_slice-holder-items.ensures in
    next_line holder_text c.args.holders.now c.as_slice-holder-items.result.now c.loop-holder.holder-index c.holder-item.result
    c.holder-item.result c.args.line.now.items c.loop-holder.line.items c.write_holder.new.line.items same (omega (arith, ap length same))
    c.loop-holder.invariant c.in_ok-write_holder.ensures c.holder-item.is
