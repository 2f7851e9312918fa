use Rattle.jz_change.proofs.StepViews.{behind_steps}
use Rattle.jz_change.proofs.composing.next.Goals as goal

pub returns-then-at-steps : goal.returns-then-at-steps
returns-then-at-steps c = behind_steps c.args.steps.now c.args.at
