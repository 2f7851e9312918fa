use Rattle.jz_change.specs.Views.{change_of}
use Rattle.jz_lowering.specs.Functions.{too_long}
use Rattle.jz_lowering.proofs.FunctionLemmas.{keeps_runs, keeps_cases, is_ready, is_long}
use Rattle.jz_lowering.proofs.functions.lower.Goals as goal

pub returns-clause-law : goal.returns-clause-law
returns-clause-law c = keeps_runs c.args.fun.now c.in_ok-lowered.lowered (change_of c.in_ok-lowered.lowered.change) c.in_ok-lowered.ensures.made

pub returns-clause-cases : goal.returns-clause-cases
returns-clause-cases c = keeps_cases c.args.fun.now c.in_ok-lowered.lowered (change_of c.in_ok-lowered.lowered.change) c.in_ok-lowered.ensures.made

pub returns-clause-ready : goal.returns-clause-ready
returns-clause-ready c =
    is_ready c.args.fun.now c.in_ok-lowered.lowered (change_of c.in_ok-lowered.lowered.change) c.in_ok-lowered.ensures.made (c.is_short.ensures.fits c.if-not-is_short.false)

pub returns-then-not-is_short-clause-refused : goal.returns-then-not-is_short-clause-refused
returns-then-not-is_short-clause-refused c =
    let l = c.in_ok-lowered.lowered in
    too_long (is_long c.args.fun.now l (change_of l.change) c.in_ok-lowered.ensures.made (c.is_short.ensures.only c.if-not-is_short.true)) l c.in_ok-lowered.ensures.made (c.is_short.ensures.only c.if-not-is_short.true)
