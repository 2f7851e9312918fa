use Rattle.jz_unrolling_values.proofs.RefusalLemmas.{handed, no_values}
use Rattle.jz_unrolling_values.specs.InlineNames.{names_in}
use Rattle.jz_unrolling_values.specs.Numbers.{numbers_in}
use Rattle.jz_unrolling_values.proofs.expressions.with_values.Goals as goal

pub returns-in_err-part : goal.returns-in_err-part
returns-in_err-part c =
    handed _ _ c.from_residual.result c.in_err-part.field-0.0 c.from_residual.ensures.1 c.in_err-part.ensures
    (no_values (names_in c.args.values.now.vars.now) (numbers_in c.args.values.now.known.now) c.args.expr.now)

pub returns-in_err-whole : goal.returns-in_err-whole
returns-in_err-whole c =
    let names = names_in c.args.values.now.vars.now in
    let e = numbers_in c.args.values.now.known.now in
    handed _ _ c.from_residual-in_err-whole.result c.in_err-whole.field-0.0 c.from_residual-in_err-whole.ensures.1
    (c.in_err-whole.ensures names e c.args.expr.now c.in_ok-part.ensures)
    (λ fails. fails)
