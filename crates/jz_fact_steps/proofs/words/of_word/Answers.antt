use Rattle.std.proofs.Common.{refl, ap, ◌∙◌}
use Rattle.std.specs.Prelude.{not, ◌&&◌, nat_le}
use Rattle.jz_terms.specs.Terms.{term_of}
use Rattle.jz_facts.specs.Facts.{is_among}
use Rattle.jz_facts.specs.Holding.{is_read}
use Rattle.jz_fact_sets.specs.Kept.{facts_of}
use Rattle.jz_fact_steps.proofs.WordFacts.{word_is}
use Rattle.jz_fact_steps.proofs.words.of_word.Goals as goal

pub returns : goal.returns
returns c =
    let g = c.args.given.now in
    word_is g (facts_of g c.args.set.now) c.args.size (term_of c.args.e.now) _ refl
    (λ n. c.least_known.ensures n ∙ ap (λ r. not r && (is_among n g.constants && nat_le n c.interval-ends.result.lo)) c.is_a_read-read.ensures ∙ ap (λ i. not (is_read (term_of c.args.e.now)) && (is_among n g.constants && nat_le n i.lo)) c.interval-ends.ensures)
    (λ n. c.most_known.ensures n ∙ ap (λ r. not r && (is_among n g.constants && nat_le c.interval-ends.result.hi n)) c.is_a_read-read.ensures ∙ ap (λ i. not (is_read (term_of c.args.e.now)) && (is_among n g.constants && nat_le i.hi n)) c.interval-ends.ensures)
    c.times_known.ensures
    c.under_known.ensures
    c.is_known.ensures
