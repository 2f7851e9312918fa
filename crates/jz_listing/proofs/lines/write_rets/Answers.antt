use Rattle.std.proofs.Common.{arith, ap, length}
use Rattle.jz_text.proofs.NextLines.{next_line}
use Rattle.jz_listing.specs.Listing.{ret_line}
use Rattle.jz_listing.proofs.lines.write_rets.Goals as goal

pub loop-ret-preserved : goal.loop-ret-preserved
loop-ret-preserved c =
    let same = c.as_slice-ret-items.ensures in
    next_line ret_line c.args.rets.now c.as_slice-ret-items.result.now c.loop-ret.ret-index c.ret-item.result c.ret-item.result c.args.text.now.items
    c.loop-ret.text.items c.write_ret_line.new.text.items same (omega (arith, ap length same)) c.loop-ret.invariant
    c.in_ok-write_ret_line.ensures c.ret-item.is
