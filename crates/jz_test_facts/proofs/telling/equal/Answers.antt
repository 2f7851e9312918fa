use Rattle.std.proofs.Common.{false, ap, ◌∙◌}
use Rattle.jz_terms.specs.Terms.{term_of}
use Rattle.jz_facts.specs.Tests.{◌and◌}
use Rattle.jz_fact_sets.specs.Kept.{given_of, facts_of}
use Rattle.jz_fact_sets.specs.Renewing.{own}
use Rattle.jz_test_facts.specs.Comparing.{told_below, told_above, told_same}
use Rattle.jz_test_facts.proofs.KnownFacts.{join_is}
use Rattle.jz_test_facts.proofs.telling.equal.Goals as goal

pub returns : goal.returns
returns c =
    let g = c.args.given.now in
    let f = given_of g in
    let s = facts_of g c.args.set.now in
    let t = term_of c.args.e.now in
    let z = c.args.size in
    ap (own g) c.join.ensures
    ∙ join_is g c.join-ends.result c.same-alike.result (told_below f s z false t and told_above f s z false t) (told_same f s t)
    (ap (own g) c.join-ends.ensures ∙ join_is g c.below-low.result c.above-high.result (told_below f s z false t) (told_above f s z false t) c.below-low.ensures c.above-high.ensures)
    c.same-alike.ensures
