use Rattle.std.proofs.Common.{ap, ◌∙◌}
use Rattle.jz_block_facts.specs.Pieces.{answered}
use Rattle.jz_block_facts.proofs.LaidFacts.{facts_seen}
use Rattle.jz_block_facts.proofs.single.open_arm.Goals as goal

pub returns-clause-facts : goal.returns-clause-facts
returns-clause-facts c =
    let g = c.args.given.now in
    c.in_ok-after_test.ensures.facts ∙ ap (answered g c.args.cond.now c.args.answer) (facts_seen g c.args.set.now c.open.new.self c.in_ok-open.ensures.seen)
