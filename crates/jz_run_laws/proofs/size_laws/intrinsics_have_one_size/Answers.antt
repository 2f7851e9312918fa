use Rattle.jz_run_laws.proofs.InstructionSizes.{intrinsic_law}
use Rattle.jz_run_laws.proofs.size_laws.intrinsics_have_one_size.Goals as goal

pub returns : goal.returns
returns c = intrinsic_law
