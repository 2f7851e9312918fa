use Rattle.std.proofs.Common.{ap}
use Rattle.jz_fact_sets.proofs.FactLemmas.{common_facts, renewed_facts, cell_facts, forgotten_facts}
use Rattle.jz_fact_sets.proofs.laws.changes_of_facts.Goals as goal

pub returns-clause-meeting : goal.returns-clause-meeting
returns-clause-meeting c g x y new d h = common_facts g d x y new h

pub returns-clause-renewal : goal.returns-clause-renewal
returns-clause-renewal c g v x know = renewed_facts g v x know

pub returns-clause-cell : goal.returns-clause-cell
returns-clause-cell c g a i know f = ap (λ s. s f) (cell_facts g a i know)

pub returns-clause-forgotten : goal.returns-clause-forgotten
returns-clause-forgotten c g v know f = ap (λ s. s f) (forgotten_facts g v know)
