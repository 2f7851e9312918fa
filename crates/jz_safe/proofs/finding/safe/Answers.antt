use Rattle.std.proofs.Common.{◌≡◌, ◌≤◌, [], None, Some, map, length, sym, subst}
use Rattle.jz_tree.specs.declared.program.Fun.{Fun}
use Rattle.jz_preconditions.specs.Refusals.{refused_places}
use Rattle.jz_fact_sets.specs.Kept.{AreDifferent}
use Rattle.jz_given.specs.Giving.{param_of}
use Rattle.jz_block_facts.specs.Heads.{HasNoFor, plain_block}
use Rattle.jz_asked.specs.Asked.{alarm_of}
use Rattle.jz_first_alarm.proofs.Stepping.{handed_on}
use Rattle.jz_safe.proofs.Ready.{different, few, plain, none_refused, of_stated}
use Rattle.jz_safe.proofs.Alarms.{no_alarm}
use Rattle.jz_safe.proofs.finding.safe.Goals as goal

pub stated-requires : goal.stated-requires
stated-requires c = subst (λ (g : Fun). refused_places g ≡ []) (sym c.fun-function.ensures) (none_refused c.args.expanded c.requires)

pub first_alarm-requires-clause-different : goal.first_alarm-requires-clause-different
first_alarm-requires-clause-different c =
    subst (λ (g : Fun). AreDifferent (map (param_of c.in_ok-pres.pres) g.params)) (sym c.fun-function.ensures) (different c.args.expanded c.requires c.in_ok-pres.pres)

pub first_alarm-requires-clause-few : goal.first_alarm-requires-clause-few
first_alarm-requires-clause-few c = subst (λ (g : Fun). length g.params ≤ 64) (sym c.fun-function.ensures) (few c.args.expanded c.requires)

pub first_alarm-requires-clause-plain : goal.first_alarm-requires-clause-plain
first_alarm-requires-clause-plain c = subst (λ (g : Fun). HasNoFor (plain_block g.body)) (sym c.fun-function.ensures) (plain c.args.expanded c.requires)

pub invariant_of-result : goal.invariant_of-result
invariant_of-result c =
    record {
      text = ∣ c.requires ∣₁;
      rule = ∣ no_alarm c.args.expanded.fun (of_stated c.args.expanded.fun c.fun-function.result.now c.in_ok-pres.pres None c.fun-function.ensures c.in_ok-pres.ensures c.in_ok-first_alarm.ensures.none) ∣₁;
    }

pub returns-clause-none : goal.returns-clause-none
returns-clause-none c =
    of_stated c.args.expanded.fun c.fun-function.result.now c.in_ok-pres.pres None c.fun-function.ensures c.in_ok-pres.ensures c.in_ok-first_alarm.ensures.none

pub returns-in_err-first_alarm-clause-some : goal.returns-in_err-first_alarm-clause-some
returns-in_err-first_alarm-clause-some c =
    handed_on c.from_residual-in_err-first_alarm.result c.in_err-first_alarm.field-0.0 _ _ c.from_residual-in_err-first_alarm.ensures.1
    (λ v h. of_stated c.args.expanded.fun c.fun-function.result.now c.in_ok-pres.pres (Some (alarm_of v)) c.fun-function.ensures c.in_ok-pres.ensures h)
    c.in_err-first_alarm.ensures.some
