use Rattle.jasminc_interp.proofs.Told.{told_end, told_cut, told_stuck}
use Rattle.jasminc_interp.proofs.telling.tell.Goals as goal

pub returns-in_ok-text-in-End : goal.returns-in_ok-text-in-End
returns-in_ok-text-in-End c = told_end c.args.function.now c.args.words.now c.args.fuel c.args.outcome.now c.in_ok-text-in-End.text _ _ _ c.in-End.is c.in_ok-text-in-End.ensures

pub returns-in_ok-text-in-Cut : goal.returns-in_ok-text-in-Cut
returns-in_ok-text-in-Cut c = told_cut c.args.function.now c.args.words.now c.args.fuel c.args.outcome.now c.in_ok-text-in-Cut.text _ c.in-Cut.is c.in_ok-text-in-Cut.ensures

pub returns-in_ok-text-in-Stuck : goal.returns-in_ok-text-in-Stuck
returns-in_ok-text-in-Stuck c =
    told_stuck c.args.function.now c.args.words.now c.args.fuel c.args.outcome.now c.in_ok-text-in-Stuck.text _ c.in-Stuck.is c.in_ok-text-in-Stuck.ensures
