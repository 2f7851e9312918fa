use Rattle.std.proofs.Common.{◌++◌, ◌∙◌, ap, sym, append-nil}
use Rattle.jz_unrolling.specs.Steps.{step_list}
use Rattle.jz_unrolling.proofs.statements.push_step.Goals as goal

pub returns-in-None : goal.returns-in-None
returns-in-None c =
    let steps = c.args.steps.now in
    sym (ap (λ s. steps ++ step_list s) c.in-None.is ∙ append-nil steps)

pub returns-in_ok-push-in-Some : goal.returns-in_ok-push-in-Some
returns-in_ok-push-in-Some c =
    let steps = c.args.steps.now in
    c.in_ok-push-in-Some.ensures.ok ∙ ap (λ s. steps ++ step_list s) (sym c.in-Some.is)
