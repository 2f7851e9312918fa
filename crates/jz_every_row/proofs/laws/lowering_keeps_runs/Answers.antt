use Rattle.jz_every_row.proofs.Bodies.{bodies_carry, bodies_have_cases}
use Rattle.jz_every_row.proofs.laws.lowering_keeps_runs.Goals as goal

pub returns-clause-runs : goal.returns-clause-runs
returns-clause-runs c = λ places frame home b u k homing h met. bodies_carry places frame home homing b u k h met

pub returns-clause-cases : goal.returns-clause-cases
returns-clause-cases c = λ home b u k h. bodies_have_cases home b u k h
