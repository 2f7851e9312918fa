use Rattle.std.proofs.Common.{ap, sym, ◌∙◌}
use Rattle.jz_facts.specs.Facts.{Under}
use Rattle.jz_facts.specs.Holding.{copied}
use Rattle.jz_fact_sets.specs.Kept.{facts_of, is_named}
use Rattle.jz_fact_sets.proofs.NamedBits.{none_named}
use Rattle.jz_terms.proofs.TermForms.{term_bin, term_bool, term_cast, term_cell, term_load, term_neg, term_not, term_num, term_var}
use Rattle.jz_fact_steps.proofs.words.under_known.Goals as goal

pub returns-in-Num : goal.returns-in-Num
returns-in-Num c x = none_named c.args.given.now.params x ∙ sym (ap (λ t. copied (facts_of c.args.given.now c.args.set.now) t (λ y. Under y x)) (term_num _ _ _ c.in-Num.is))

pub returns-in-Bool : goal.returns-in-Bool
returns-in-Bool c x = none_named c.args.given.now.params x ∙ sym (ap (λ t. copied (facts_of c.args.given.now c.args.set.now) t (λ y. Under y x)) (term_bool _ _ _ c.in-Bool.is))

pub returns-in-Var : goal.returns-in-Var
returns-in-Var c x = ap (λ k. is_named c.args.given.now.params k.under x) c.known.ensures ∙ sym (ap (λ t. copied (facts_of c.args.given.now c.args.set.now) t (λ y. Under y x)) (term_var _ _ c.in-Var.is))

pub returns-in-Cell : goal.returns-in-Cell
returns-in-Cell c x = none_named c.args.given.now.params x ∙ sym (ap (λ t. copied (facts_of c.args.given.now c.args.set.now) t (λ y. Under y x)) (term_cell _ _ _ c.in-Cell.is))

pub returns-in-Load : goal.returns-in-Load
returns-in-Load c x = none_named c.args.given.now.params x ∙ sym (ap (λ t. copied (facts_of c.args.given.now c.args.set.now) t (λ y. Under y x)) (term_load _ _ c.in-Load.is))

pub returns-in-Neg : goal.returns-in-Neg
returns-in-Neg c x = none_named c.args.given.now.params x ∙ sym (ap (λ t. copied (facts_of c.args.given.now c.args.set.now) t (λ y. Under y x)) (term_neg _ _ _ c.in-Neg.is))

pub returns-in-Not : goal.returns-in-Not
returns-in-Not c x = none_named c.args.given.now.params x ∙ sym (ap (λ t. copied (facts_of c.args.given.now c.args.set.now) t (λ y. Under y x)) (term_not _ _ _ c.in-Not.is))

pub returns-in-Cast : goal.returns-in-Cast
returns-in-Cast c x = none_named c.args.given.now.params x ∙ sym (ap (λ t. copied (facts_of c.args.given.now c.args.set.now) t (λ y. Under y x)) (term_cast _ _ _ _ _ c.in-Cast.is))

pub returns-in-Bin : goal.returns-in-Bin
returns-in-Bin c x = none_named c.args.given.now.params x ∙ sym (ap (λ t. copied (facts_of c.args.given.now c.args.set.now) t (λ y. Under y x)) (term_bin _ _ _ _ _ c.in-Bin.is))
