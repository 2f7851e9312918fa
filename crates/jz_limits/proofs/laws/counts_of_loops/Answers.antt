use Rattle.jz_limits.proofs.Counting.{turns_count, empty_loops}
use Rattle.jz_limits.proofs.laws.counts_of_loops.Goals as goal

pub returns-clause-turns : goal.returns-clause-turns
returns-clause-turns c = turns_count

pub returns-clause-empty : goal.returns-clause-empty
returns-clause-empty c = empty_loops
