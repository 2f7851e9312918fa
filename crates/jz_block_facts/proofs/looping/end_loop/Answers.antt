use Rattle.std.proofs.Common.{◌≡◌, ap, sym, subst, ◌∙◌}
use Rattle.std.specs.Prelude.{slice_set}
use Rattle.jz_facts.specs.Tests.{leaves}
use Rattle.jz_fact_sets.specs.Kept.{given_of, facts_of}
use Rattle.jz_block_facts.specs.Heads.{laid}
use Rattle.jz_block_facts.proofs.LaidFacts.{returned}
use Rattle.jz_block_facts.proofs.looping.end_loop.Goals as goal

pub returns-clause-below : goal.returns-clause-below
returns-clause-below c zero e =
    c.in_ok-leave.ensures.below ∙ c.in_ok-lay.ensures.below ∙ (returned zero c.taken-head.new.set c.args.set.now.below.items e c.taken-head.ensures.below).0

pub returns-clause-facts : goal.returns-clause-facts
returns-clause-facts c span =
    let g = c.args.given.now in
    c.in_ok-leave.ensures.facts span
    ∙ ap (λ s. leaves (given_of g) (record { cond = c.args.cond.now; at = span }) s (laid g c.args.prologue.now s)) (c.in_ok-lay.ensures.facts g ∙ sym (c.taken-head.ensures.facts g))

pub returns-clause-heads : goal.returns-clause-heads
returns-clause-heads c = c.set.ensures ∙ ap (slice_set c.args.heads.now c.args.at) c.taken-head.ensures.table
