use Rattle.jz_unrolling_values.proofs.RefusalLemmas.{handed, part_no_number}
use Rattle.jz_unrolling_values.specs.InlineNames.{names_in}
use Rattle.jz_unrolling_values.specs.Numbers.{numbers_in}
use Rattle.jz_unrolling_values.proofs.expressions.number_of.Goals as goal

pub returns-in_err-n : goal.returns-in_err-n
returns-in_err-n c =
    handed _ _ c.from_residual.result c.in_err-n.field-0.0 c.from_residual.ensures.1 c.in_err-n.ensures
    (part_no_number (names_in c.args.values.now.vars.now) (numbers_in c.args.values.now.known.now) c.args.expr.now)
