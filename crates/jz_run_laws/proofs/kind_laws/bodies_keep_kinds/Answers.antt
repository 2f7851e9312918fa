use Rattle.jz_run_laws.proofs.Functions.{bodies_keep}
use Rattle.jz_run_laws.proofs.kind_laws.bodies_keep_kinds.Goals as goal

pub returns : goal.returns
returns c = bodies_keep
