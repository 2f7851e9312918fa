use Rattle.jz_judgement.proofs.Calling.{calls_hold, calls_right}
use Rattle.jz_judgement.proofs.laws.calls_are_judged.Goals as goal

pub returns : goal.returns
returns c = λ g to args at. (calls_hold g to args at, calls_right g to args at)
