use Rattle.jz_lowering_cases.proofs.Whole.{stay}
use Rattle.jz_lowering_cases.proofs.laws.lowered_cases_stay.Goals as goal

pub returns : goal.returns
returns c = λ home places slots size b u first second X placed small inside lowered named. stay places size small home slots placed b u first second X inside lowered named
