use Rattle.std.proofs.Common.{◌≡◌, length, get_or, refl, sym, ap, subst, ◌∙◌}
use Rattle.std.specs.Prelude.{IsSomeAnd}
use Rattle.std.proofs.lemmas.Option.{slice_get_read}
use Rattle.jz_flow.specs.Sets.{common}
use Rattle.jz_fact_sets.specs.declared.given.Given as code
use Rattle.jz_fact_sets.specs.Kept.{AreDifferent, facts_of, known_at}
use Rattle.jz_block_facts.specs.Heads.{laid}
use Rattle.jz_block_facts.proofs.LaidFacts.{narrower, none_more}
use Rattle.jz_block_facts.proofs.looping.narrow_head.Goals as goal

pub returns-clause-less : goal.returns-clause-less
returns-clause-less c = none_more c.in_ok-narrow.field-0 (known_at c.args.set.now) (known_at c.narrow.new.set) c.in_ok-narrow.ensures.same c.in_ok-narrow.ensures.falls

pub returns-clause-facts : goal.returns-clause-facts
returns-clause-facts c =
    let xs = c.args.heads.now in
    let e = c.index-as_slice-at.result in
    let is : e ≡ get_or xs c.args.at e = c.index-as_slice-at.is ∙ ap (λ l. get_or l c.args.at e) c.as_slice.ensures in
    subst (λ o. IsSomeAnd o (λ m. (g : code.Given) → AreDifferent g.params → facts_of g c.narrow.new.set ≡ common (facts_of g c.args.set.now) (laid g m (facts_of g c.args.set.now))))
    (sym (slice_get_read xs (length xs) c.args.at e refl c.requires is))
    (λ g d. narrower g e (known_at c.args.set.now) (known_at c.narrow.new.set) d c.in_ok-narrow.ensures.known)
