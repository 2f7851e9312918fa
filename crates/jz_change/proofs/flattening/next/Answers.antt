use Rattle.jz_change.proofs.StepCases.{behind_drop}
use Rattle.jz_change.proofs.flattening.next.Goals as goal

pub returns-then-at-cases : goal.returns-then-at-cases
returns-then-at-cases c = behind_drop c.args.cases.now c.args.at
