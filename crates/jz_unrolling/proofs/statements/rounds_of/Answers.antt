use Rattle.std.proofs.Common.{◌∙◌, sym}
use Rattle.jz_unrolling_values.specs.InlineNames.{names_in}
use Rattle.jz_unrolling_values.specs.Numbers.{numbers_in}
use Rattle.jz_unrolling_values.proofs.RefusalLemmas.{handed}
use Rattle.jz_unrolling_values.proofs.SettingLemmas.{no_number}
use Rattle.jz_unrolling.proofs.statements.rounds_of.Goals as goal

pub returns-then-not-is_inline_number : goal.returns-then-not-is_inline_number
returns-then-not-is_inline_number c =
    λ at is i j values. no_number (names_in c.args.unroller.now.vars.now) (numbers_in c.args.known.now) c.args.counter.now (sym c.is_inline_number.ensures ∙ c.if-not-is_inline_number.true) values.counter

pub returns-in_err-first : goal.returns-in_err-first
returns-in_err-first c =
    handed _ _ c.from_residual.result c.in_err-first.field-0.0 c.from_residual.ensures.1 c.in_err-first.ensures
    (λ fails at is i j values. fails values.first i values.from)

pub returns-in_err-bound : goal.returns-in_err-bound
returns-in_err-bound c =
    handed _ _ c.from_residual-in_err-bound.result c.in_err-bound.field-0.0 c.from_residual-in_err-bound.ensures.1 c.in_err-bound.ensures
    (λ fails at is i j values. fails values.bound j values.to)
