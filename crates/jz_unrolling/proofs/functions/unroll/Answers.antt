use Rattle.jz_change.specs.Views.{change_of}
use Rattle.jz_unrolling.proofs.FunctionLemmas.{keeps_runs, keeps_cases}
use Rattle.jz_unrolling.proofs.functions.unroll.Goals as goal

pub returns-clause-law : goal.returns-clause-law
returns-clause-law c =
    let r = c.in_ok-passed.passed in
    let made = c.in_ok-passed.ensures in
    keeps_runs c.args.fun.now r.program (change_of r.change) made.body made.head made.plain

pub returns-clause-cases : goal.returns-clause-cases
returns-clause-cases c =
    let r = c.in_ok-passed.passed in
    keeps_cases c.args.fun.now r.program (change_of r.change) c.in_ok-passed.ensures.body
