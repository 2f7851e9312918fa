use Rattle.jz_runs.proofs.Items.{items_so, turns_so, rounds_so}
use Rattle.jz_runs.proofs.laws.items_are_a_view.Goals as goal

pub returns-clause-body : goal.returns-clause-body
returns-clause-body c = items_so

pub returns-clause-turns : goal.returns-clause-turns
returns-clause-turns c = turns_so

pub returns-clause-rounds : goal.returns-clause-rounds
returns-clause-rounds c = rounds_so
