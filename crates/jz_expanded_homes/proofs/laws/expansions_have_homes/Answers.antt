use Rattle.jz_expanded_homes.proofs.Whole.{have_homes, are_ready}
use Rattle.jz_expanded_homes.proofs.laws.expansions_have_homes.Goals as goal

pub returns-clause-homes : goal.returns-clause-homes
returns-clause-homes c = have_homes

pub returns-clause-ready : goal.returns-clause-ready
returns-clause-ready c = are_ready
