use Rattle.std.proofs.Common.{ap, sym, ◌∙◌}
use Rattle.jz_terms.specs.Terms.{term_of}
use Rattle.jz_facts.specs.Tests.{◌and◌, by_true}
use Rattle.jz_fact_sets.specs.Kept.{given_of, facts_of}
use Rattle.jz_fact_sets.specs.Renewing.{own}
use Rattle.jz_test_facts.specs.Comparing.{on, left_told}
use Rattle.jz_test_facts.proofs.ToldFacts.{joined, adds_told}
use Rattle.jz_test_facts.proofs.after.compared.Goals as goal

pub returns-clause-facts : goal.returns-clause-facts
returns-clause-facts c =
    let g = c.args.given.now in
    let f = given_of g in
    let s = facts_of g c.args.set.now in
    let a = term_of c.args.left.now in
    let b = term_of c.args.right.now in
    let z = c.size_of_both-size.result in
    let op = c.args.op in
    c.in_ok-tell-2.ensures.told g
    ∙ ap (λ x. x and on b (own g c.right_told-second.result)) (c.in_ok-tell.ensures.told g)
    ∙ joined s (on a (own g c.left_told-first.result)) (on b (own g c.right_told-second.result))
    ∙ ap (λ x. s and (on a x and on b (own g c.right_told-second.result))) c.left_told-first.ensures
    ∙ ap (λ x. s and (on a (left_told f s z op b) and on b x)) c.right_told-second.ensures
    ∙ ap (λ x. s and x) (sym (adds_told f s z a b op))
    ∙ ap (λ y. s and by_true f op s y a b) c.size_of_both-size.ensures
