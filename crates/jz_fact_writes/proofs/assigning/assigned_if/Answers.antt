use Rattle.std.proofs.Common.{None, Some, ap, ◌∙◌}
use Rattle.jz_flow.specs.Sets.{common}
use Rattle.jz_layers.proofs.TableLemmas.{none_in}
use Rattle.jz_facts.specs.Holding as holding
use Rattle.jz_fact_sets.specs.Kept.{given_of, known_at, known_or, facts_by, facts_of}
use Rattle.jz_fact_sets.specs.Meeting.{over_known}
use Rattle.jz_fact_sets.proofs.FactLemmas.{common_facts, met_everywhere}
use Rattle.jz_fact_writes.proofs.Layering.{back, over_is, over_empty}
use Rattle.jz_fact_writes.proofs.assigning.assigned_if.Goals as goal

pub returns-clause-below : goal.returns-clause-below
returns-clause-below c =
    let two = c.in_ok-assigned.ensures.below ∙ c.in_ok-open.ensures.below in
    c.in_ok-meet.ensures.below ∙ (back c.args.set.now c.close-after.new.self c.assigned.new.set.below.items two c.close-after.ensures.below).0

pub returns-clause-facts : goal.returns-clause-facts
returns-clause-facts c cond =
    let g = c.args.given.now in
    let zero = c.args.set.now in
    let one = c.open.new.self in
    let two = c.assigned.new.set in
    let three = c.close-after.new.self in
    let four = c.meet.new.set in
    let know = known_at three in
    let same = (back zero three two.below.items (c.in_ok-assigned.ensures.below ∙ c.in_ok-open.ensures.below) c.close-after.ensures.below).1 in
    let x = over_known c.close-after.result know in
    let y = over_known c.new-before.result know in
    common_facts g c.requires x y (known_at four) (met_everywhere c.close-after.result c.new-before.result know (known_at four) c.in_ok-meet.ensures.known)
    ∙ ap (λ f. common (facts_by g f) (facts_by g y)) (over_is two three c.close-after.result c.close-after.ensures.table c.close-after.ensures.below)
    ∙ ap (λ f. common (facts_of g two) (facts_by g f)) (over_empty c.new-before.result know (none_in c.new-before.result c.new-before.ensures.empty))
    ∙ ap (λ f. common f (facts_of g three)) c.in_ok-assigned.ensures.facts
    ∙ ap (λ s. common (holding.assigned (given_of g) c.args.to.now (Some c.args.e.now) None (facts_by g (λ k. known_or (s k)))) (facts_of g three)) c.in_ok-open.ensures.seen
    ∙ ap (λ s. common (holding.assigned (given_of g) c.args.to.now (Some c.args.e.now) None (facts_of g zero)) (facts_by g (λ k. known_or (s k)))) same
