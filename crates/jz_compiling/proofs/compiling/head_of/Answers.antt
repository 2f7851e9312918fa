use Rattle.std.specs.Prelude.{List}
use Rattle.jz_listing.specs.declared.compiled.Arg.{Arg}
use Rattle.jz_correct.specs.Registers.{argument_registers, result_registers}
use Rattle.jz_compiled.specs.Lines.{AreArgumentLines, AreResultLines}
use Rattle.std.specs.Prelude.{◌≡◌, Some}
use Rattle.jz_type_names.specs.Order.{earliest}
use Rattle.jz_preconditions.specs.Refusals.{refused_places}
use Rattle.jz_lowering.proofs.HandedOn.{handed_cause}
use Rattle.jz_compiling.specs.Refused.{HasNoHead, no_arguments, no_results, wrong_annotation}
use Rattle.jz_compiling.proofs.compiling.head_of.Goals as goal

pub returns-clause-lines : goal.returns-clause-lines
returns-clause-lines c = record { args = c.in_ok-args.ensures.lines; rets = c.in_ok-rets.ensures.lines; pre = c.in_ok-pre.ensures.lines }

pub returns-in_err-args-clause-refused : goal.returns-in_err-args-clause-refused
returns-in_err-args-clause-refused c =
    handed_cause (λ at. (lines : List Arg) → AreArgumentLines argument_registers c.args.fun.now.params lines → ⊥) (HasNoHead c.args.fun.now) c.from_residual.result c.in_err-args.field-0.0 c.from_residual.ensures.1 c.in_err-args.ensures.refused
    (λ at h. no_arguments h)

pub returns-in_err-rets-clause-refused : goal.returns-in_err-rets-clause-refused
returns-in_err-rets-clause-refused c =
    handed_cause (λ at. (lines : List Arg) → AreResultLines result_registers c.args.fun.now.result c.args.fun.now.rets lines → ⊥) (HasNoHead c.args.fun.now) c.from_residual-in_err-rets.result c.in_err-rets.field-0.0 c.from_residual-in_err-rets.ensures.1
    c.in_err-rets.ensures.refused (λ at h. no_results h)

pub returns-in_err-pre-clause-refused : goal.returns-in_err-pre-clause-refused
returns-in_err-pre-clause-refused c =
    handed_cause (λ at. earliest (refused_places c.args.fun.now) ≡ Some at) (HasNoHead c.args.fun.now) c.from_residual-in_err-pre.result c.in_err-pre.field-0.0 c.from_residual-in_err-pre.ensures.1 c.in_err-pre.ensures.refused
    (λ at h. wrong_annotation h)
