use Rattle.std.proofs.Common.{ap, ◌∙◌}
use Rattle.jz_facts.specs.Facts.{Facts}
use Rattle.jz_terms.specs.Terms.{term_of}
use Rattle.jz_facts.specs.Tests as tests
use Rattle.jz_facts.specs.Tests.{◌and◌}
use Rattle.jz_fact_sets.specs.Kept.{given_of}
use Rattle.jz_block_facts.proofs.LaidFacts.{facts_seen}
use Rattle.jz_block_facts.proofs.bodies.holds_behind.Goals as goal

pub returns : goal.returns
returns c =
    let g = c.args.given.now in
    let adds = λ (s : Facts). s and tests.adds (given_of g) s (term_of c.args.test.now) c.args.answer in
    c.in_ok-after_test.ensures.facts ∙ ap {B = Facts} adds (facts_seen g c.args.set.now c.in_ok-behind.behind c.in_ok-behind.ensures)
