use Rattle.std.proofs.Common.{arith, ap, length}
use Rattle.jz_text.proofs.NextLines.{next_line}
use Rattle.jz_listing.specs.Listing.{pre_line}
use Rattle.jz_listing.proofs.lines.write_preconditions.Goals as goal

pub loop-one-preserved : goal.loop-one-preserved
loop-one-preserved c =
    let same = c.as_slice-one-items.ensures in
    next_line pre_line c.args.pre.now c.as_slice-one-items.result.now c.loop-one.one-index c.one-item.result c.one-item.result c.args.text.now.items
    c.loop-one.text.items c.write_pre_line.new.text.items same (omega (arith, ap length same)) c.loop-one.invariant
    c.in_ok-write_pre_line.ensures c.one-item.is
