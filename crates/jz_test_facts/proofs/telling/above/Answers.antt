use Rattle.std.proofs.Common.{ap, ◌∙◌}
use Rattle.std.specs.Prelude.{◌&&◌, nat_le}
use Rattle.jz_terms.specs.Terms.{term_of}
use Rattle.jz_facts.specs.Facts.{is_among}
use Rattle.jz_fact_sets.specs.Kept.{facts_of}
use Rattle.jz_test_facts.specs.Comparing.{above_of}
use Rattle.jz_test_facts.proofs.ToldFacts.{words_alone}
use Rattle.jz_test_facts.proofs.KnownFacts.{above_is}
use Rattle.jz_test_facts.proofs.telling.above.Goals as goal

pub returns : goal.returns
returns c =
    let g = c.args.given.now in
    let s = facts_of g c.args.set.now in
    let t = term_of c.args.e.now in
    above_is g s c.args.size t c.args.strict c.least_known.result
    (λ n. c.least_known.ensures n ∙ ap (λ e. is_among n g.constants && nat_le n e) c.above_end-end.ensures
    ∙ words_alone g.constants (above_of c.args.strict c.interval-ends.result.lo) n c.requires
    ∙ ap (λ i. is_among n g.constants && nat_le n (above_of c.args.strict i.lo)) c.interval-ends.ensures)
