use Rattle.jz_stated.proofs.Annotated.{state_well}
use Rattle.jz_stated.proofs.laws.typed_programs_state_well.Goals as goal

pub returns : goal.returns
returns c = state_well
