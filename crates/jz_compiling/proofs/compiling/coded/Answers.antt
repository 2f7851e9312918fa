use Rattle.std.proofs.Common.{subst}
use Rattle.jz_data.specs.Failures.{IfRefused}
use Rattle.jz_code.specs.Made.{HasNoCode}
use Rattle.jz_compiling.proofs.Codeless.{no_code}
use Rattle.jz_compiling.proofs.compiling.coded.Goals as goal

pub returns-in-Err-Refused-clause-refused : goal.returns-in-Err-Refused-clause-refused
returns-in-Err-Refused-clause-refused c =
    let h = subst (λ x. IfRefused x (HasNoCode c.args.lowered.now.ir c.as_slice.result.now)) c.in-Err-Refused.field-0-is c.in-Err-Refused.ensures.refused in
    no_code c.args.fun.now c.args.lowered.now c.in-Err-Refused.why c.requires.made c.requires.ready (subst (λ s. HasNoCode c.args.lowered.now.ir s c.in-Err-Refused.why) c.as_slice.ensures h)
