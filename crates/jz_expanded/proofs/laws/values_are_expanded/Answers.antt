use Rattle.jz_expanded.proofs.Scalars.{expressions, lefts}
use Rattle.jz_expanded.proofs.laws.values_are_expanded.Goals as goal

pub returns-clause-expressions : goal.returns-clause-expressions
returns-clause-expressions c = expressions

pub returns-clause-lefts : goal.returns-clause-lefts
returns-clause-lefts c = lefts
