use Rattle.std.proofs.Common.{◌≡◌, true, false, ap, sym, ◌∙◌}
use Rattle.jz_meaning.specs.Values.{ref_of}
use Rattle.jz_layers.specs.Spots.{variable_key}
use Rattle.jz_facts.specs.Holding.{renewed}
use Rattle.jz_fact_sets.specs.Kept.{known_at, facts_by, facts_of}
use Rattle.jz_fact_sets.specs.Renewing.{own}
use Rattle.jz_fact_sets.proofs.FactLemmas.{renewed_facts, forgotten_facts}
use Rattle.jz_fact_writes.specs.Marking.{is_array}
use Rattle.jz_fact_writes.proofs.Unmarking.{plain_unmarked, array_unmarked}
use Rattle.jz_fact_writes.proofs.marks.forget.Goals as goal

pub returns-then-is_array-clause-facts : goal.returns-then-is_array-clause-facts
returns-then-is_array-clause-facts c g =
    let x = c.args.var.now in
    let kind : is_array (ref_of x).kind ≡ true = sym (c.is_array.ensures ∙ ap is_array c.kind_of.ensures) ∙ c.if-is_array.true in
    ap (facts_by g) c.in_ok-forget_all.ensures.known
    ∙ forgotten_facts g (variable_key x) (known_at c.args.set.now)
    ∙ array_unmarked x (facts_of g c.args.set.now) kind

pub returns-clause-facts : goal.returns-clause-facts
returns-clause-facts c g =
    let x = c.args.var.now in
    let kind : is_array (ref_of x).kind ≡ false = sym (c.is_array.ensures ∙ ap is_array c.kind_of.ensures) ∙ c.if-is_array.false in
    ap (facts_by g) c.in_ok-renew.ensures.known
    ∙ renewed_facts g (variable_key x) c.nothing.result (known_at c.args.set.now)
    ∙ ap (λ k. renewed (variable_key x) (own g k) (facts_of g c.args.set.now)) c.nothing.ensures
    ∙ plain_unmarked g x (facts_of g c.args.set.now) kind
