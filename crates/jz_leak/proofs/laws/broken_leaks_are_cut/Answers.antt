use Rattle.jz_leak.proofs.CutLaws.{broken_cut, turns_cut, rounds_cut}
use Rattle.jz_leak.proofs.laws.broken_leaks_are_cut.Goals as goal

pub returns-clause-body : goal.returns-clause-body
returns-clause-body c = broken_cut

pub returns-clause-turns : goal.returns-clause-turns
returns-clause-turns c = turns_cut

pub returns-clause-rounds : goal.returns-clause-rounds
returns-clause-rounds c = rounds_cut
