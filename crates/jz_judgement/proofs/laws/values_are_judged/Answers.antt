use Rattle.jz_judgement.proofs.Assigning.{values_hold, values_right}
use Rattle.jz_judgement.proofs.laws.values_are_judged.Goals as goal

pub returns : goal.returns
returns c = λ to o e. (values_hold to o e, values_right to o e)
