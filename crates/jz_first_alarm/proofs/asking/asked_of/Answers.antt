use Rattle.std.proofs.Common.{None, ap, sym, ◌∙◌}
use Rattle.jz_fact_sets.specs.Kept.{given_of, facts_of}
use Rattle.jz_block_facts.specs.Pieces.{operation_of}
use Rattle.jz_alarms.specs.Conditions as conditions
use Rattle.jz_first_alarm.proofs.asking.asked_of.Goals as goal

pub returns-in_ok-found-in-Value : goal.returns-in_ok-found-in-Value
returns-in_ok-found-in-Value c at =
    let g = given_of c.args.given.now in
    let s = facts_of c.args.given.now c.args.set.now in
    c.in_ok-found-in-Value.ensures at
    ∙ ap (λ r. conditions.asks_operation g (operation_of c.args.to.now c.args.op r c.args.cond.now at) s) (sym c.in-Value.is)

pub returns-in-Call : goal.returns-in-Call
returns-in-Call c at =
    let g = given_of c.args.given.now in
    let s = facts_of c.args.given.now c.args.set.now in
    ap (λ r. conditions.asks_operation g (operation_of c.args.to.now c.args.op r c.args.cond.now at) s) (sym c.in-Call.is)

pub returns-in_ok-found-in-None-cond : goal.returns-in_ok-found-in-None-cond
returns-in_ok-found-in-None-cond c at =
    let g = given_of c.args.given.now in
    let s = facts_of c.args.given.now c.args.set.now in
    let i = c.in-Intrinsic in
    c.in_ok-found-in-None-cond.ensures
    ∙ ap (λ r. conditions.asks_operation g (operation_of c.args.to.now None r None at) s) (sym i.is)
    ∙ ap (λ o. conditions.asks_operation g (operation_of c.args.to.now o c.args.rhs.now None at) s) (sym c.in-None.is)
    ∙ ap (λ q. conditions.asks_operation g (operation_of c.args.to.now c.args.op c.args.rhs.now q at) s) (sym c.in-None-cond.is)
