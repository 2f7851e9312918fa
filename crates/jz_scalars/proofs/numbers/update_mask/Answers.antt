use Rattle.std.proofs.Common.{◌∙◌, ap, sym}
use Rattle.jz_scalars.specs.declared.masks.Masked.{Masked}
use Rattle.jz_scalars.specs.InnerMasks.{masked_operation}
use Rattle.jz_scalars.proofs.MaskLemmas.{update_some}
use Rattle.jz_scalars.proofs.numbers.update_mask.Goals as goal

pub returns-in_ok-mask-in-Some : goal.returns-in_ok-mask-in-Some
returns-in_ok-mask-in-Some c =
    c.in_ok-mask-in-Some.ensures
    ∙ ap (λ (m : Masked). (masked_operation c.args.op c.in-Some.left m).mask) c.in_ok-value-in-Some.ensures
    ∙ sym (update_some c.args.to.now c.args.op c.args.value.now c.in-Some.left (sym c.in_ok-read.ensures ∙ c.in-Some.is))
