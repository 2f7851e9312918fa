use Rattle.std.proofs.Common.{subst}
use Rattle.jz_first_limit.specs.FirstLimits.{IsMet}
use Rattle.jz_first_limit.proofs.first.first_limit.Goals as goal

pub returns-in-Within : goal.returns-in-Within
returns-in-Within c = (subst (IsMet c.args.program.now c.args.fun.now) c.in-Within.is c.in_ok-met.ensures).0

pub returns-in-Passed : goal.returns-in-Passed
returns-in-Passed c = subst (IsMet c.args.program.now c.args.fun.now) c.in-Passed.is c.in_ok-met.ensures
