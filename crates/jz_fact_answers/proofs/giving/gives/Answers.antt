use Rattle.std.proofs.Common.{sym, ◌∙◌}
use Rattle.jz_facts.specs.Coded.{fact_of}
use Rattle.jz_fact_answers.proofs.GivenFacts.{given_to, given_from}
use Rattle.jz_fact_answers.proofs.giving.gives.Goals as goal

pub returns : goal.returns
returns c = (
  λ h. given_to c.args.given.now c.args.set.now c.requires (fact_of c.args.fact.now) (sym c.is_given.ensures ∙ h),
  λ h. c.is_given.ensures ∙ given_from c.args.given.now c.args.set.now c.requires (fact_of c.args.fact.now) h,
)
