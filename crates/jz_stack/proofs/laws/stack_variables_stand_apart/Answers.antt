use Rattle.jz_stack.proofs.Laid.{laid}
use Rattle.jz_stack.proofs.laws.stack_variables_stand_apart.Goals as goal

pub returns : goal.returns
returns c = laid
