use Rattle.std.proofs.Common.{◌≡◌, false, true, ap, sym, subst, ◌∙◌}
use Rattle.jz_flow.specs.Sets.{common}
use Rattle.jz_fact_sets.specs.Kept.{known_at, facts_of}
use Rattle.jz_fact_sets.specs.Meeting.{Falls}
use Rattle.jz_block_facts.specs.Heads.{laid}
use Rattle.jz_block_facts.proofs.LaidFacts.{returned, narrower, over_facts, facts_as, facts_seen}
use Rattle.jz_block_facts.proofs.looping.lower_head.Goals as goal

pub returns-clause-below : goal.returns-clause-below
returns-clause-below c =
    let two = c.in_ok-lay-2.ensures.below ∙ c.in_ok-lay.ensures.below ∙ c.in_ok-open.ensures.below in
    c.in_ok-fell.ensures.below ∙ (returned c.args.set.now c.close-turn.new.self c.lay-2.new.set.below.items two c.close-turn.ensures.below).0

pub returns-clause-facts : goal.returns-clause-facts
returns-clause-facts c g d =
    let zero = c.args.set.now in
    let two = c.lay-2.new.set in
    let three = c.close-turn.new.self in
    let turn = c.close-turn.result in
    let same = returned zero three two.below.items (c.in_ok-lay-2.ensures.below ∙ c.in_ok-lay.ensures.below ∙ c.in_ok-open.ensures.below) c.close-turn.ensures.below in
    narrower g turn (known_at three) (known_at c.narrow.new.set) d c.in_ok-fell.ensures.known
    ∙ ap (λ s. common (facts_of g three) s) (sym (over_facts g two three turn c.close-turn.ensures.table c.close-turn.ensures.below)
    ∙ c.in_ok-lay-2.ensures.facts g ∙ ap (laid g c.args.body.now) (c.in_ok-lay.ensures.facts g ∙ ap (laid g c.args.prologue.now) (facts_seen g zero c.open.new.self c.in_ok-open.ensures.seen)))
    ∙ ap (λ s. common s (laid g c.args.body.now (laid g c.args.prologue.now (facts_of g zero)))) (facts_as g (known_at zero) (known_at three) same.2)

pub returns-clause-same : goal.returns-clause-same
returns-clause-same c e =
    let two = c.in_ok-lay-2.ensures.below ∙ c.in_ok-lay.ensures.below ∙ c.in_ok-open.ensures.below in
    c.in_ok-fell.ensures.same e ∙ (returned c.args.set.now c.close-turn.new.self c.lay-2.new.set.below.items two c.close-turn.ensures.below).2

pub returns-clause-falls : goal.returns-clause-falls
returns-clause-falls c e =
    let two = c.in_ok-lay-2.ensures.below ∙ c.in_ok-lay.ensures.below ∙ c.in_ok-open.ensures.below in
    subst (λ k. Falls k (known_at c.narrow.new.set)) (returned c.args.set.now c.close-turn.new.self c.lay-2.new.set.below.items two c.close-turn.ensures.below).2 (c.in_ok-fell.ensures.falls e)
