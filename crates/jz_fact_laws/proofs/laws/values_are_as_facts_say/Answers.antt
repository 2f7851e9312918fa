use Rattle.jz_fact_laws.proofs.Holding.{intervals_hold, multiples_hold}
use Rattle.jz_fact_laws.proofs.laws.values_are_as_facts_say.Goals as goal

pub returns-clause-intervals : goal.returns-clause-intervals
returns-clause-intervals c = intervals_hold

pub returns-clause-multiples : goal.returns-clause-multiples
returns-clause-multiples c = multiples_hold
