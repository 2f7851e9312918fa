use Rattle.jz_judgement.proofs.Calling.{instructs_hold, instructs_right}
use Rattle.jz_judgement.proofs.laws.intrinsics_are_judged.Goals as goal

pub returns : goal.returns
returns c = λ g to args at. (instructs_hold g to args at, instructs_right g to args at)
