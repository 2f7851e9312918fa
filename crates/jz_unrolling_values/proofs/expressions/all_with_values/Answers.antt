use Rattle.jz_unrolling_values.proofs.RefusalLemmas.{handed, some_fails}
use Rattle.std.proofs.Common.{rules}
use Rattle.jz_unroll.specs.Values.{has_values}
use Rattle.jz_unrolling_values.specs.InlineNames.{names_in}
use Rattle.jz_unrolling_values.specs.Numbers.{numbers_in}
use Rattle.jz_unrolling_values.proofs.expressions.all_with_values.Goals as goal

pub returns-in_err-whole-clause-known : goal.returns-in_err-whole-clause-known
returns-in_err-whole-clause-known c =
    let names = names_in c.args.values.now.vars.now in
    let e = numbers_in c.args.values.now.known.now in
    handed _ _ c.from_residual.result c.in_err-whole.field-0.0 c.from_residual.ensures.1 c.in_err-whole.ensures
    (some_fails (has_values names e) c.args.exprs.now c.loop-expr.expr-index c.expr-item.result (search rules) (search rules))
