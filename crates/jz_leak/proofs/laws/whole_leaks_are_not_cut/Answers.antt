use Rattle.jz_leak.proofs.CutLaws.{whole_uncut, turns_uncut, rounds_uncut}
use Rattle.jz_leak.proofs.laws.whole_leaks_are_not_cut.Goals as goal

pub returns-clause-body : goal.returns-clause-body
returns-clause-body c = whole_uncut

pub returns-clause-turns : goal.returns-clause-turns
returns-clause-turns c = turns_uncut

pub returns-clause-rounds : goal.returns-clause-rounds
returns-clause-rounds c = rounds_uncut
