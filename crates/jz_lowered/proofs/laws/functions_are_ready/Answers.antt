use Rattle.jz_lowered.proofs.Coded.{functions_ready}
use Rattle.jz_lowered.proofs.laws.functions_are_ready.Goals as goal

pub returns : goal.returns
returns c = λ home f b ir k l formed short. functions_ready home f b ir k l formed short
