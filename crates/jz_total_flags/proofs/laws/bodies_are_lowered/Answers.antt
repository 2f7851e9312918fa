use Rattle.jz_total_flags.proofs.Whole.{ready_lowered}
use Rattle.jz_total_flags.proofs.laws.bodies_are_lowered.Goals as goal

pub returns : goal.returns
returns c = ready_lowered
