use Rattle.jz_constant_leaks.proofs.Alike.{expansions_same, functions_alike}
use Rattle.jz_constant_leaks.proofs.laws.constant_functions_leak_the_same.Goals as goal

pub returns-clause-expansions : goal.returns-clause-expansions
returns-clause-expansions c = expansions_same

pub returns-clause-functions : goal.returns-clause-functions
returns-clause-functions c = functions_alike
