use Rattle.std.proofs.Common.{◌∙◌, ap, sym}
use Rattle.jz_scalars.specs.InnerMasks.{masked_left}
use Rattle.jz_scalars.proofs.MaskLemmas.{last_operand}
use Rattle.jz_scalars.proofs.masks.joined.Goals as goal

pub loop-op-preserved : goal.loop-op-preserved
loop-op-preserved c =
    ap (masked_left c.pop.new.self.items) c.in_ok-first.ensures
    ∙ sym (last_operand c.pop.new.self.items c.in-Some.field-0 c.loop-op.first)
    ∙ ap (λ xs. masked_left xs c.loop-op.first) (sym c.in-Some.ensures.items)
    ∙ c.loop-op.invariant
