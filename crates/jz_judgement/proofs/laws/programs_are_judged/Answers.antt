use Rattle.jz_judgement.proofs.Calling.{program_holds, program_right}
use Rattle.jz_judgement.proofs.laws.programs_are_judged.Goals as goal

pub returns : goal.returns
returns c = λ q. (program_holds q, program_right q)
