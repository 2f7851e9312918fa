use Rattle.jz_lowering.proofs.FunctionLemmas.{ready_have_code, lowered_have_code}
use Rattle.jz_lowering.proofs.laws.functions_have_code.Goals as goal

pub returns-clause-ready : goal.returns-clause-ready
returns-clause-ready c = ready_have_code

pub returns-clause-lowered : goal.returns-clause-lowered
returns-clause-lowered c = lowered_have_code
