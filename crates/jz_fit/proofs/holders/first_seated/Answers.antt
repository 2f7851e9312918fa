use Rattle.std.proofs.Common.{sym, subst, take}
use Rattle.std.proofs.lemmas.List.{take_more}
use Rattle.jz_fit.specs.InnerHolding.{IsFirstSeated}
use Rattle.jz_fit.proofs.holders.first_seated.Goals as goal

pub loop-variable-preserved : goal.loop-variable-preserved
loop-variable-preserved c =
    subst (λ xs. IsFirstSeated xs c.args.places.now c.args.place c.next_seated-first.result) (sym (take_more c.as_slice-variable-items.result.now c.loop-variable.variable-index 0 c.loop-variable-test.true))
    (c.next_seated-first.ensures (take c.loop-variable.variable-index c.as_slice-variable-items.result.now) c.loop-variable.invariant)
