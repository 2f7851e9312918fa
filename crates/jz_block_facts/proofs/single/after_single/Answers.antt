use Rattle.std.proofs.Common.{◌≡◌, Some, None, ap, sym, ◌∙◌}
use Rattle.jz_tree.specs.declared.stmt.Rhs.TheVariants as rhs
use Rattle.jz_facts.specs.Holding.{does}
use Rattle.jz_fact_sets.specs.Kept.{given_of, facts_of}
use Rattle.jz_block_facts.specs.Pieces.{operation_of}
use Rattle.jz_block_facts.proofs.single.after_single.Goals as goal

pub returns-in_ok-after_assignment-in-Value-clause-facts : goal.returns-in_ok-after_assignment-in-Value-clause-facts
returns-in_ok-after_assignment-in-Value-clause-facts c at =
    let g = given_of c.args.given.now in
    c.in_ok-after_assignment-in-Value.ensures.facts at
    ∙ ap (λ r. does g (operation_of c.args.to.now c.args.op r c.args.cond.now at) (facts_of c.args.given.now c.args.set.now)) (sym c.in-Value.is)

pub returns-in-Call-clause-facts : goal.returns-in-Call-clause-facts
returns-in-Call-clause-facts c at =
    let g = given_of c.args.given.now in
    ap (λ r. does g (operation_of c.args.to.now c.args.op r c.args.cond.now at) (facts_of c.args.given.now c.args.set.now)) (sym c.in-Call.is)

pub returns-in_ok-after_instruction-in-None-cond-clause-facts : goal.returns-in_ok-after_instruction-in-None-cond-clause-facts
returns-in_ok-after_instruction-in-None-cond-clause-facts c at =
    let g = given_of c.args.given.now in
    let i = c.in-Intrinsic in
    let s = facts_of c.args.given.now c.args.set.now in
    c.in_ok-after_instruction-in-None-cond.ensures.facts c.args.given.now i.field-2
    ∙ ap (λ r. does g (operation_of c.args.to.now None r None at) s) (sym i.is)
    ∙ ap (λ o. does g (operation_of c.args.to.now o c.args.rhs.now None at) s) (sym c.in-None.is)
    ∙ ap (λ q. does g (operation_of c.args.to.now c.args.op c.args.rhs.now q at) s) (sym c.in-None-cond.is)
