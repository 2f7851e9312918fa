use Rattle.std.proofs.Common.{◌≡◌, true, false, ap, sym, subst, ◌∙◌, if◌then◌else◌}
use Rattle.jz_terms.specs.Terms.{term_of}
use Rattle.jz_facts.specs.Tests.{tested}
use Rattle.jz_fact_sets.specs.Kept.{given_of, facts_of}
use Rattle.jz_block_facts.specs.Heads.{laid}
use Rattle.jz_block_facts.specs.Pieces.{answered}
use Rattle.jz_block_facts.proofs.Leaving.{leaves_so}
use Rattle.jz_block_facts.proofs.looping.leave.Goals as goal

pub returns-then-is_true-clause-facts : goal.returns-then-is_true-clause-facts
returns-then-is_true-clause-facts c at =
    let g = c.args.given.now in
    let s = facts_of g c.args.set.now in
    let q = laid g c.args.prologue.now s in
    sym (leaves_so (given_of g) (record { cond = c.args.cond.now; at = at }) s q c.is_true.result c.is_true.ensures
    ∙ ap (λ b. if b then s else tested (given_of g) (record { cond = c.args.cond.now; at = at }) false q) c.if-is_true.true)

pub returns-clause-facts : goal.returns-clause-facts
returns-clause-facts c at =
    let g = c.args.given.now in
    let s = facts_of g c.args.set.now in
    let q = laid g c.args.prologue.now s in
    c.in_ok-after_test.ensures.facts
    ∙ ap (λ f. answered g c.args.cond.now false f) (c.in_ok-lay.ensures.facts g)
    ∙ sym (leaves_so (given_of g) (record { cond = c.args.cond.now; at = at }) s q c.is_true.result c.is_true.ensures
    ∙ ap (λ b. if b then s else tested (given_of g) (record { cond = c.args.cond.now; at = at }) false q) c.if-is_true.false)
