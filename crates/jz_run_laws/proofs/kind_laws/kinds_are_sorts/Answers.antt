use Rattle.jz_run_laws.proofs.Stores.{kinds_sorted}
use Rattle.jz_run_laws.proofs.kind_laws.kinds_are_sorts.Goals as goal

pub returns : goal.returns
returns c = kinds_sorted
