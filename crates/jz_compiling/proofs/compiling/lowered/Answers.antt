use Rattle.std.proofs.Common.{inr, subst}
use Rattle.jz_data.specs.Failures.{IfRefused}
use Rattle.jz_lowering.specs.Functions.{Refuses}
use Rattle.jz_compiling.proofs.compiling.lowered.Goals as goal

pub returns-in-Err-Refused-clause-refused : goal.returns-in-Err-Refused-clause-refused
returns-in-Err-Refused-clause-refused c = inr (subst (λ x. IfRefused x (Refuses c.args.fun.now)) c.in-Err-Refused.field-0-is c.in-Err-Refused.ensures.refused)
