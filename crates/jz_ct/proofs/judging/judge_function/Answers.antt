use Rattle.jz_ct.proofs.Judged.{none_told, some_told}
use Rattle.jz_ct.proofs.judging.judge_function.Goals as goal

pub returns-in-None : goal.returns-in-None
returns-in-None c = none_told c.args.fun.now c.in_ok-first.first c.in-None.is (c.in_ok-first.ensures c.requires)

pub returns-in_ok-secret-in-Some : goal.returns-in_ok-secret-in-Some
returns-in_ok-secret-in-Some c = some_told c.args.fun.now c.in_ok-first.first c.in-Some.found c.in_ok-secret-in-Some.secret c.in-Some.is c.in_ok-secret-in-Some.ensures (c.in_ok-first.ensures c.requires)
