use Rattle.jz_unrolling_values.proofs.RefusalLemmas.{handed}
use Rattle.std.proofs.Common.{◌≡◌, sym, subst, false}
use Rattle.jz_unroll.specs.Values.{if_has_values}
use Rattle.jz_unrolling_values.specs.InlineNames.{names_in}
use Rattle.jz_unrolling_values.specs.Numbers.{numbers_in}
use Rattle.jz_unrolling_values.proofs.expressions.condition_with_values.Goals as goal

pub returns-in_err-whole-in-Some-clause-known : goal.returns-in_err-whole-in-Some-clause-known
returns-in_err-whole-in-Some-clause-known c =
    let names = names_in c.args.values.now.vars.now in
    let e = numbers_in c.args.values.now.known.now in
    handed _ _ c.from_residual.result c.in_err-whole-in-Some.field-0.0 c.from_residual.ensures.1 c.in_err-whole-in-Some.ensures
    (λ fails. subst (λ x. if_has_values names e x ≡ false) (sym c.in-Some.is) fails)
