use Rattle.jasminc_ct.proofs.Judged.{one_law}
use Rattle.jasminc_ct.proofs.laws.one_judgement.Goals as goal

pub returns : goal.returns
returns c = one_law
