use Rattle.std.proofs.Common.{◌∙◌, sym, subst}
use Rattle.std.specs.Prelude.{Some}
use Rattle.jz_inputs.specs.InnerCover.{GoesOn}
use Rattle.jz_inputs.proofs.Covered.{next_item, outside_none, goes_on}
use Rattle.jz_inputs.proofs.covering.end_behind.Goals as goal

pub returns-then-is_within : goal.returns-then-is_within
returns-then-is_within c =
    let q = c.args.address in
    let xs = c.as_slice-item-items.result.now in
    subst (λ ys. GoesOn ys q (Some c.end_of.result)) c.as_slice-item-items.ensures
    (subst (λ e. GoesOn xs q (Some e)) (sym c.end_of.ensures)
    (goes_on xs c.loop-item.item-index c.item-item.result q c.loop-item-test.true c.item-item.is c.requires (sym c.is_within.ensures ∙ c.if-is_within.true)))

pub loop-item-preserved : goal.loop-item-preserved
loop-item-preserved c =
    next_item c.args.address c.as_slice-item-items.result.now c.loop-item.item-index c.item-item.result _ c.loop-item-test.true c.item-item.is
    (outside_none c.args.address c.item-item.result (sym c.is_within.ensures ∙ c.if-is_within.false)) c.loop-item.invariant
