use Rattle.std.proofs.Common.{◌∷◌, [], ◌∙◌, ap, sym}
use Rattle.jz_meaning.specs.Runs.{assign_tree}
use Rattle.jz_meaning.specs.Trees.{op}
use Rattle.jz_meaning.specs.Statements.{assign, meaningless, instruction}
use Rattle.jz_unrolling_values.specs.InlineNames.{names_in}
use Rattle.jz_unrolling_values.specs.Numbers.{numbers_in}
use Rattle.jz_unrolling_values.proofs.RefusalLemmas.{handed}
use Rattle.jz_unrolling.specs.Steps.{no_callees, assignment_of}
use Rattle.jz_unrolling.proofs.AddLemmas.{adds_as}
use Rattle.jz_unrolling.proofs.FitLemmas.{call_never, instruction_never, plain_instruction, never_as}
use Rattle.jz_unrolling.proofs.statements.unroll_assign.Goals as goal

pub returns-in_ok-step-in-Value : goal.returns-in_ok-step-in-Value
returns-in_ok-step-in-Value c =
    let names = names_in c.args.unroller.now.vars.now in
    let a = c.args.assignment.now in
    let at = c.args.stmt.now.span in
    adds_as names (assignment_of a at) (op (assign a.to.now a.op c.in-Value.value a.cond.now at)) c.args.known.now c.unroll_setting.new.known c.args.out.now c.unroll_setting.new.out (c.in_ok-step-in-Value.step ∷ [])
    (ap (λ r. assign_tree no_callees a.to.now a.op r a.cond.now at) c.in-Value.is) c.in_ok-step-in-Value.ensures

pub returns-in_err-step-in-Value : goal.returns-in_err-step-in-Value
returns-in_err-step-in-Value c =
    let names = names_in c.args.unroller.now.vars.now in
    let a = c.args.assignment.now in
    let at = c.args.stmt.now.span in
    handed _ _ c.from_residual.result c.in_err-step-in-Value.field-0.0 c.from_residual.ensures.1 c.in_err-step-in-Value.ensures
    (λ fails. never_as names (assignment_of a at) (op (assign a.to.now a.op c.in-Value.value a.cond.now at)) (numbers_in c.args.known.now) (ap (λ r. assign_tree no_callees a.to.now a.op r a.cond.now at) c.in-Value.is) fails)

pub returns-in-Call : goal.returns-in-Call
returns-in-Call c =
    let names = names_in c.args.unroller.now.vars.now in
    let e = numbers_in c.args.known.now in
    let a = c.args.assignment.now in
    let at = c.args.stmt.now.span in
    never_as names (assignment_of a at) (op (meaningless c.in-Call.at)) e (ap (λ r. assign_tree no_callees a.to.now a.op r a.cond.now at) c.in-Call.is) (call_never names c.in-Call.at e)

pub returns-in_ok-step-in-Intrinsic : goal.returns-in_ok-step-in-Intrinsic
returns-in_ok-step-in-Intrinsic c =
    let names = names_in c.args.unroller.now.vars.now in
    let a = c.args.assignment.now in
    let at = c.args.stmt.now.span in
    let i = c.in-Intrinsic in
    let k = c.args.known.now in
    adds_as names (assignment_of a at) (op (instruction a.to.now i.name i.args i.at)) k k c.args.out.now c.unroll_instruction.new.out (c.in_ok-step-in-Intrinsic.step ∷ [])
    (ap (λ r. assign_tree no_callees a.to.now a.op r a.cond.now at) i.is
    ∙ plain_instruction a.to.now a.op i.name i.args a.cond.now i.at (sym c.is_some.ensures ∙ c.if-is_some.false) (sym c.is_some-else-is_some.ensures ∙ c.if-is_some-2.false))
    c.in_ok-step-in-Intrinsic.ensures

pub returns-in_err-step-in-Intrinsic : goal.returns-in_err-step-in-Intrinsic
returns-in_err-step-in-Intrinsic c =
    let names = names_in c.args.unroller.now.vars.now in
    let e = numbers_in c.args.known.now in
    let a = c.args.assignment.now in
    let at = c.args.stmt.now.span in
    let i = c.in-Intrinsic in
    handed _ _ c.from_residual-in_err-step-in-Intrinsic.result c.in_err-step-in-Intrinsic.field-0.0 c.from_residual-in_err-step-in-Intrinsic.ensures.1 c.in_err-step-in-Intrinsic.ensures
    (λ fails.
    never_as names (assignment_of a at) (op (instruction a.to.now i.name i.args i.at)) e
    (ap (λ r. assign_tree no_callees a.to.now a.op r a.cond.now at) i.is
    ∙ plain_instruction a.to.now a.op i.name i.args a.cond.now i.at (sym c.is_some.ensures ∙ c.if-is_some.false) (sym c.is_some-else-is_some.ensures ∙ c.if-is_some-2.false))
    (instruction_never names a.to.now i.name i.args i.at e fails))
