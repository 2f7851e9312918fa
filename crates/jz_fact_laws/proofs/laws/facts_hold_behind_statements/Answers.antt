use Rattle.jz_fact_laws.proofs.Holding.{assignments_hold, tests_hold}
use Rattle.jz_fact_laws.proofs.Conditional.{assign_if_ok}
use Rattle.jz_fact_laws.proofs.laws.facts_hold_behind_statements.Goals as goal

pub returns-clause-assignments : goal.returns-clause-assignments
returns-clause-assignments c = assignments_hold

pub returns-clause-tests : goal.returns-clause-tests
returns-clause-tests c = tests_hold

pub returns-clause-conditional : goal.returns-clause-conditional
returns-clause-conditional c = assign_if_ok
