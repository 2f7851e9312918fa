use Rattle.std.proofs.Common.{arith, ap, length}
use Rattle.jz_text.proofs.NextLines.{next_line}
use Rattle.jz_listing.specs.Listing.{arg_line}
use Rattle.jz_listing.proofs.lines.write_args.Goals as goal

pub loop-arg-preserved : goal.loop-arg-preserved
loop-arg-preserved c =
    let same = c.as_slice-arg-items.ensures in
    next_line arg_line c.args.args.now c.as_slice-arg-items.result.now c.loop-arg.arg-index c.arg-item.result c.arg-item.result c.args.text.now.items
    c.loop-arg.text.items c.write_arg_line.new.text.items same (omega (arith, ap length same)) c.loop-arg.invariant
    c.in_ok-write_arg_line.ensures c.arg-item.is
