use Rattle.std.proofs.Common.{ap, ◌∙◌}
use Rattle.jz_terms.specs.Terms.{term_of}
use Rattle.jz_facts.specs.Holding.{all_written, results}
use Rattle.jz_fact_sets.specs.Kept.{given_of, facts_of}
use Rattle.jz_fact_writes.proofs.assigning.assigned.Goals as goal

pub returns-clause-facts : goal.returns-clause-facts
returns-clause-facts c =
    let g = c.args.given.now in
    let s = facts_of g c.args.set.now in
    let t = term_of c.args.e.now in
    c.in_ok-write_all.ensures.facts g s c.size_of-size.result t c.of_word-known.ensures
    ∙ ap (λ z. all_written (given_of g) s c.args.to.now (results z t c.args.to.now) s) c.size_of-size.ensures
