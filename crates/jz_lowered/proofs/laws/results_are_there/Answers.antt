use Rattle.jz_lowered.proofs.Entries.{returned}
use Rattle.jz_lowered.proofs.laws.results_are_there.Goals as goal

pub returns : goal.returns
returns c = λ home s σ x n z ns v related h run. returned home s σ x n z ns v related h run
