use Rattle.std.proofs.Common.{ap, sym, ◌∙◌}
use Rattle.jz_meaning.specs.Values.{ref_of}
use Rattle.jz_terms.specs.Terms.{term_of}
use Rattle.jz_layers.specs.Spots.{variable_key}
use Rattle.jz_facts.specs.Holding.{renewed, gained, in_cell, written}
use Rattle.jz_fact_sets.specs.Kept.{given_of, known_at, facts_by, facts_of}
use Rattle.jz_fact_sets.proofs.FactLemmas.{renewed_facts}
use Rattle.jz_fact_writes.proofs.writes.write.Goals as goal

pub returns-in-Skip-clause-facts : goal.returns-in-Skip-clause-facts
returns-in-Skip-clause-facts c g s v h = sym (ap (λ d. written (given_of g) s d v (facts_of g c.args.set.now)) c.in-Skip.is)

pub returns-in-Store-clause-facts : goal.returns-in-Store-clause-facts
returns-in-Store-clause-facts c g s v h = sym (ap (λ d. written (given_of g) s d v (facts_of g c.args.set.now)) c.in-Store.is)

pub returns-in_ok-renew-in-Var-clause-facts : goal.returns-in_ok-renew-in-Var-clause-facts
returns-in_ok-renew-in-Var-clause-facts c g s v h =
    let x = variable_key c.in-Var.var in
    ap (facts_by g) c.in_ok-renew-in-Var.ensures.known
    ∙ renewed_facts g x c.gained.result (known_at c.args.set.now)
    ∙ ap (λ n. renewed x n (facts_of g c.args.set.now)) (c.gained.ensures g s v h ∙ ap (λ k. gained (given_of g) s k v) c.kind_of.ensures)
    ∙ sym (ap (λ d. written (given_of g) s d v (facts_of g c.args.set.now)) c.in-Var.is)

pub returns-in_ok-write_cell-in-Cell-clause-facts : goal.returns-in_ok-write_cell-in-Cell-clause-facts
returns-in_ok-write_cell-in-Cell-clause-facts c g s v h =
    c.in_ok-write_cell-in-Cell.ensures.facts g
    ∙ ap (λ i. in_cell (ref_of c.in-Cell.var) (term_of i) (facts_of g c.args.set.now)) c.get.ensures
    ∙ sym (ap (λ d. written (given_of g) s d v (facts_of g c.args.set.now)) c.in-Cell.is)
