use Rattle.jz_facts.proofs.Narrowing.{narrow, multiple_more}
use Rattle.jz_facts.proofs.MoreFacts.{monotone}
use Rattle.jz_facts.proofs.laws.more_facts_give_more.Goals as goal

pub returns-clause-steps : goal.returns-clause-steps
returns-clause-steps c = monotone

pub returns-clause-low : goal.returns-clause-low
returns-clause-low c = λ g s t h z e. (narrow g s t h z e).0

pub returns-clause-high : goal.returns-clause-high
returns-clause-high c = λ g s t h z e. (narrow g s t h z e).1

pub returns-clause-multiples : goal.returns-clause-multiples
returns-clause-multiples c = λ g s t h e m. multiple_more g s t h e m
