use Rattle.std.proofs.Common.{inl, subst}
use Rattle.jz_data.specs.Failures.{IfRefused}
use Rattle.jz_compiling.specs.Refused.{HasNoHead}
use Rattle.jz_compiling.proofs.compiling.headed.Goals as goal

pub returns-in-Err-Refused-clause-refused : goal.returns-in-Err-Refused-clause-refused
returns-in-Err-Refused-clause-refused c = inl (subst (λ x. IfRefused x (HasNoHead c.args.fun.now)) c.in-Err-Refused.field-0-is c.in-Err-Refused.ensures.refused)
