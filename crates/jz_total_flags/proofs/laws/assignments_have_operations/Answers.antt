use Rattle.jz_total_flags.proofs.Assignments.{assignments}
use Rattle.jz_total_flags.proofs.Pairs.{pairs}
use Rattle.jz_total_flags.proofs.laws.assignments_have_operations.Goals as goal

pub returns-clause-single : goal.returns-clause-single
returns-clause-single c = assignments

pub returns-clause-pairs : goal.returns-clause-pairs
returns-clause-pairs c = pairs
