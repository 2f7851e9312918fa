use Rattle.jz_types.proofs.Carrying.{carrying, known}
use Rattle.jz_types.proofs.laws.variables_are_declared.Goals as goal

pub returns-clause-carried : goal.returns-clause-carried
returns-clause-carried c = carrying

pub returns-clause-known : goal.returns-clause-known
returns-clause-known c = known
