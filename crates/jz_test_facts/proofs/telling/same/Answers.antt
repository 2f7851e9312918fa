use Rattle.jz_terms.specs.Terms.{term_of}
use Rattle.jz_fact_sets.specs.Kept.{facts_of}
use Rattle.jz_test_facts.proofs.KnownFacts.{same_is}
use Rattle.jz_test_facts.proofs.telling.same.Goals as goal

pub returns : goal.returns
returns c =
    let g = c.args.given.now in
    same_is g (facts_of g c.args.set.now) (term_of c.args.e.now) c.times_known.result c.is_known.result c.times_known.ensures c.is_known.ensures
