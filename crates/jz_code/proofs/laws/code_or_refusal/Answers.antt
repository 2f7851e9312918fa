use Rattle.jz_code.proofs.Refusals as refusals
use Rattle.jz_code.proofs.laws.code_or_refusal.Goals as goal

pub returns : goal.returns
returns c = refusals.code_or_refusal
