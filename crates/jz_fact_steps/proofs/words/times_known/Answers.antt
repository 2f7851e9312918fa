use Rattle.std.proofs.Common.{sym, ◌∙◌}
use Rattle.jz_terms.specs.Terms.{term_of}
use Rattle.jz_fact_sets.specs.Kept.{given_of, facts_of}
use Rattle.jz_fact_steps.proofs.Timing.{at_eight, at_four}
use Rattle.jz_fact_steps.proofs.words.times_known.Goals as goal

pub returns-then-is_multiple : goal.returns-then-is_multiple
returns-then-is_multiple c =
    let s = c.args.saying.now in
    at_eight (given_of s.given.now) (facts_of s.given.now s.set.now) (term_of c.args.e.now) (sym c.is_multiple.ensures ∙ c.if-is_multiple.true)

pub returns-then-is_multiple-2 : goal.returns-then-is_multiple-2
returns-then-is_multiple-2 c =
    let s = c.args.saying.now in
    at_four (given_of s.given.now) (facts_of s.given.now s.set.now) (term_of c.args.e.now) (sym c.is_multiple.ensures ∙ c.if-is_multiple.false) (sym c.is_multiple-2.ensures ∙ c.if-is_multiple-2.true)
