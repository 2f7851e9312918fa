use Rattle.jasminc_check.proofs.Judged.{one_judged}
use Rattle.jasminc_check.proofs.laws.one_judgement.Goals as goal

pub returns : goal.returns
returns c = one_judged
