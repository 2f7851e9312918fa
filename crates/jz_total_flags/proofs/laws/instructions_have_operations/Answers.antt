use Rattle.jz_total_flags.proofs.Instructions.{instructions}
use Rattle.jz_total_flags.proofs.laws.instructions_have_operations.Goals as goal

pub returns : goal.returns
returns c = instructions
