use Rattle.jz_run_laws.proofs.Declarations.{declarations_give}
use Rattle.jz_run_laws.proofs.kind_laws.declarations_give_kinds.Goals as goal

pub returns : goal.returns
returns c = declarations_give
