use Rattle.std.proofs.Common.{false, rules}
use Rattle.jz_leak.specs.declared.transformer.Out.TheVariants as out
use Rattle.jz_listing.specs.Listable.{out_fits}
use Rattle.jz_listable.proofs.Sized.{pass_more, pass_all}
use Rattle.jz_listable.proofs.numbers.events_are_sized.Goals as goal

pub loop-out-preserved : goal.loop-out-preserved
loop-out-preserved c = pass_more out_fits c.as_slice-out-items.result.now c.loop-out.out-index (out.Branch false) (search rules) c.loop-out.invariant c.event_is_sized.ensures

pub returns : goal.returns
returns c = pass_all out_fits c.args.outs.now c.as_slice-out-items.result.now c.loop-out.out-index c.as_slice-out-items.ensures (search rules) c.loop-out.invariant
