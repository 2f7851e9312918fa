use Rattle.jz_fact_entry.proofs.Whole.{inputs_stand}
use Rattle.jz_fact_entry.proofs.laws.inputs_stand.Goals as goal

pub returns : goal.returns
returns c = inputs_stand
