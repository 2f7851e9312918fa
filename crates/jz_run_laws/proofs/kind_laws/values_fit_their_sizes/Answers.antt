use Rattle.jz_run_laws.proofs.Expressions.{value_fits}
use Rattle.jz_run_laws.proofs.Stores.{state_fits}
use Rattle.jz_run_laws.proofs.kind_laws.values_fit_their_sizes.Goals as goal

pub returns : goal.returns
returns c = λ kinds e w s h. value_fits e w s (state_fits kinds s h)
