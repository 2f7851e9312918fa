use Rattle.jz_unrolling_values.proofs.RefusalLemmas.{handed, part_no_test}
use Rattle.jz_unrolling_values.specs.InlineNames.{names_in}
use Rattle.jz_unrolling_values.specs.Numbers.{numbers_in}
use Rattle.jz_unrolling_values.proofs.conditions.test_of.Goals as goal

pub returns-in_err-answer : goal.returns-in_err-answer
returns-in_err-answer c =
    handed _ _ c.from_residual.result c.in_err-answer.field-0.0 c.from_residual.ensures.1 c.in_err-answer.ensures
    (part_no_test (names_in c.args.values.now.vars.now) (numbers_in c.args.values.now.known.now) c.args.cond.now)
