use Rattle.std.proofs.Common.{◌∙◌, sym, ap}
use Rattle.jz_preconditions.specs.Bounds.{first_of}
use Rattle.jz_inputs.specs.Held.{byte_in}
use Rattle.jz_inputs.proofs.Covered.{next_item, here_item, small_at}
use Rattle.jz_inputs.proofs.bytes.byte_at.Goals as goal

pub returns-in-Some-clause-value : goal.returns-in-Some-clause-value
returns-in-Some-clause-value c =
    let q = c.args.address in
    here_item q c.as_slice-item-items.result.now c.loop-item.item-index c.item-item.result c.in-Some.byte _ c.loop-item-test.true c.item-item.is
    (sym c.byte_in.ensures.value ∙ c.in-Some.is) c.loop-item.invariant
    ∙ ap (first_of (byte_in q)) c.as_slice-item-items.ensures ∙ sym (small_at c.args.items.now q c.ranges.address.fits)

pub loop-item-preserved : goal.loop-item-preserved
loop-item-preserved c =
    next_item c.args.address c.as_slice-item-items.result.now c.loop-item.item-index c.item-item.result _ c.loop-item-test.true c.item-item.is
    (sym c.byte_in.ensures.value ∙ c.in-None.is) c.loop-item.invariant
