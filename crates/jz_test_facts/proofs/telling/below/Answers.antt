use Rattle.std.proofs.Common.{ap, ◌∙◌}
use Rattle.std.specs.Prelude.{◌&&◌, ◌||◌, nat_le}
use Rattle.jz_terms.specs.Terms.{term_of}
use Rattle.jz_facts.specs.Facts.{Under, is_among}
use Rattle.jz_facts.specs.Holding.{copied}
use Rattle.jz_fact_sets.specs.Kept.{facts_of, is_named}
use Rattle.jz_fact_sets.proofs.NamedBits.{some_named}
use Rattle.jz_test_facts.specs.Comparing.{below_of}
use Rattle.jz_test_facts.proofs.KnownFacts.{below_is}
use Rattle.jz_test_facts.proofs.telling.below.Goals as goal

pub returns : goal.returns
returns c =
    let g = c.args.given.now in
    let s = facts_of g c.args.set.now in
    let t = term_of c.args.e.now in
    below_is g s c.args.size t c.args.strict c.most_known.result _
    (λ n. c.most_known.ensures n ∙ ap (λ e. is_among n g.constants && nat_le e n) c.below_end-end.ensures ∙ ap (λ i. is_among n g.constants && nat_le (below_of c.args.strict i.hi) n) c.interval-ends.ensures)
    (λ x. some_named g.params c.under_known.result c.is_if.result x ∙ ap (λ b. b || is_named g.params c.is_if.result x) (c.under_known.ensures x) ∙ ap (λ b. copied s t (λ y. Under y x) || b) (c.is_if.ensures x))
