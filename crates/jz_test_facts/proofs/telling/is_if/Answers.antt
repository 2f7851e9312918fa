use Rattle.std.proofs.Common.{ap, sym, ◌∙◌}
use Rattle.std.specs.Prelude.{◌&&◌}
use Rattle.jz_terms.specs.Terms.{term_of}
use Rattle.jz_facts.specs.Facts.{Is}
use Rattle.jz_facts.specs.Holding.{copied}
use Rattle.jz_fact_sets.specs.Kept.{facts_of}
use Rattle.jz_fact_sets.proofs.NamedBits.{none_named}
use Rattle.jz_test_facts.proofs.telling.is_if.Goals as goal

pub returns-else-strict : goal.returns-else-strict
returns-else-strict c x =
    none_named c.args.given.now.params x
    ∙ sym (ap (λ b. b && copied (facts_of c.args.given.now c.args.set.now) (term_of c.args.e.now) (λ y. Is y x)) c.if-strict.false)
