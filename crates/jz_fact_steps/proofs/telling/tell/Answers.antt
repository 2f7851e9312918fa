use Rattle.std.proofs.Common.{refl, ap, sym, ◌∙◌}
use Rattle.jz_facts.specs.Tests.{◌and◌}
use Rattle.jz_fact_sets.specs.Kept.{facts_of}
use Rattle.jz_fact_steps.specs.Telling.{of_term}
use Rattle.jz_fact_steps.proofs.Joining.{told_none}
use Rattle.jz_terms.proofs.TermForms.{term_bin, term_bool, term_cast, term_cell, term_load, term_neg, term_not, term_num, term_var}
use Rattle.jz_fact_steps.proofs.telling.tell.Goals as goal

pub returns-in-Num-clause-told : goal.returns-in-Num-clause-told
returns-in-Num-clause-told c g = told_none g (facts_of g c.args.set.now) c.args.told _ _ (term_num _ _ _ c.in-Num.is) (λ v. refl)

pub returns-in-Bool-clause-told : goal.returns-in-Bool-clause-told
returns-in-Bool-clause-told c g = told_none g (facts_of g c.args.set.now) c.args.told _ _ (term_bool _ _ _ c.in-Bool.is) (λ v. refl)

pub returns-in_ok-tell_variable-in-Var-clause-told : goal.returns-in_ok-tell_variable-in-Var-clause-told
returns-in_ok-tell_variable-in-Var-clause-told c g = c.in_ok-tell_variable-in-Var.ensures.told g ∙ ap (λ t. facts_of g c.args.set.now and of_term g t c.args.told) (sym (term_var _ _ c.in-Var.is))

pub returns-in-Cell-clause-told : goal.returns-in-Cell-clause-told
returns-in-Cell-clause-told c g = told_none g (facts_of g c.args.set.now) c.args.told _ _ (term_cell _ _ _ c.in-Cell.is) (λ v. refl)

pub returns-in-Load-clause-told : goal.returns-in-Load-clause-told
returns-in-Load-clause-told c g = told_none g (facts_of g c.args.set.now) c.args.told _ _ (term_load _ _ c.in-Load.is) (λ v. refl)

pub returns-in-Neg-clause-told : goal.returns-in-Neg-clause-told
returns-in-Neg-clause-told c g = told_none g (facts_of g c.args.set.now) c.args.told _ _ (term_neg _ _ _ c.in-Neg.is) (λ v. refl)

pub returns-in-Not-clause-told : goal.returns-in-Not-clause-told
returns-in-Not-clause-told c g = told_none g (facts_of g c.args.set.now) c.args.told _ _ (term_not _ _ _ c.in-Not.is) (λ v. refl)

pub returns-in-Cast-clause-told : goal.returns-in-Cast-clause-told
returns-in-Cast-clause-told c g = told_none g (facts_of g c.args.set.now) c.args.told _ _ (term_cast _ _ _ _ _ c.in-Cast.is) (λ v. refl)

pub returns-in-Bin-clause-told : goal.returns-in-Bin-clause-told
returns-in-Bin-clause-told c g = told_none g (facts_of g c.args.set.now) c.args.told _ _ (term_bin _ _ _ _ _ c.in-Bin.is) (λ v. refl)
