use Rattle.std.proofs.Common.{arith, ap, length, false}
use Rattle.jz_leak.specs.declared.transformer.Out.TheVariants as out
use Rattle.jz_listing.specs.Transformers.{out_text}
use Rattle.jz_listing.proofs.Spaces.{next_piece}
use Rattle.jz_listing.proofs.transformers.write_outs.Goals as goal

pub loop-i-preserved : goal.loop-i-preserved
loop-i-preserved c =
    let same = c.as_slice-out-items.ensures in
    next_piece out_text c.args.outs.now c.as_slice-out-items.result.now c.loop-i.i (out.Branch false) c.extend_from_slice.new.self.items
    c.loop-i.text.items c.write_separator.new.text.items c.write_out.new.text.items same (omega (arith, ap length same))
    c.loop-i.invariant c.in_ok-write_separator.ensures c.in_ok-write_out.ensures
