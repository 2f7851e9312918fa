use Rattle.jz_first_limit.proofs.Answering.{met_is}
use Rattle.jz_first_limit.proofs.first.count_expanded.Goals as goal

pub returns-in_ok-met-in-Ok : goal.returns-in_ok-met-in-Ok
returns-in_ok-met-in-Ok c = met_is c.args.program.now c.args.fun.now c.in_ok-met-in-Ok.met c.in-Ok.ensures.within.within c.in_ok-met-in-Ok.ensures
