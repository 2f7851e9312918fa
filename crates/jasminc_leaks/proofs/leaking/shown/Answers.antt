use Rattle.std.proofs.Common.{subst}
use Rattle.jasminc_leaks.specs.InnerLeaking.{LeaksFitting}
use Rattle.jasminc_leaks.proofs.Applied.{told_end, told_cut}
use Rattle.jasminc_leaks.proofs.leaking.shown.Goals as goal

pub events_of-requires : goal.events_of-requires
events_of-requires c = subst (LeaksFitting c.args.transformer.now) c.in-End.is c.requires

pub events_of-requires-in-Cut : goal.events_of-requires-in-Cut
events_of-requires-in-Cut c = subst (LeaksFitting c.args.transformer.now) c.in-Cut.is c.requires

pub unreachable-requires : goal.unreachable-requires
unreachable-requires c = subst (LeaksFitting c.args.transformer.now) c.in-Stuck.is c.requires

pub returns-in_ok-text-in-End : goal.returns-in_ok-text-in-End
returns-in_ok-text-in-End c =
    told_end c.args.transformer.now c.args.fuel c.args.outcome.now c.in_ok-text-in-End.text c.in_ok-events-in-End.events _ _ _ c.in-End.is c.in_ok-events-in-End.ensures c.in_ok-text-in-End.ensures

pub returns-in_ok-text-in-Cut : goal.returns-in_ok-text-in-Cut
returns-in_ok-text-in-Cut c =
    told_cut c.args.transformer.now c.args.fuel c.args.outcome.now c.in_ok-text-in-Cut.text c.in_ok-events-in-Cut.events _ c.in-Cut.is c.in_ok-events-in-Cut.ensures c.in_ok-text-in-Cut.ensures
