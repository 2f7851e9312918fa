use Rattle.std.specs.Int.{w128}
use Rattle.std.proofs.Common.{rules, ap, sym, ◌∙◌}
use Rattle.std.proofs.lemmas.Int.{to_z-of_z}
use Rattle.jz_fact_sets.specs.Kept.{given_of}
use Rattle.jz_fact_sets.specs.Renewing.{own}
use Rattle.jz_test_facts.specs.Comparing.{told_other}
use Rattle.jz_test_facts.proofs.KnownFacts.{none_is, from_number}
use Rattle.jz_terms.proofs.TermForms.{term_bin, term_bool, term_cast, term_cell, term_load, term_neg, term_not, term_var}
use Rattle.jz_test_facts.proofs.telling.other.Goals as goal

pub returns-in-Num : goal.returns-in-Num
returns-in-Num c g = from_number g c.args.size c.args.e.now _ _ _ (own g c.other_than.result) c.in-Num.is (to_z-of_z w128 c.in-Num.n (search rules)) (c.other_than.ensures g)

pub returns-in-Bool : goal.returns-in-Bool
returns-in-Bool c g = ap (own g) c.nothing.ensures ∙ none_is g ∙ sym (ap (λ t. told_other (given_of g) c.args.size t) (term_bool _ _ _ c.in-Bool.is))

pub returns-in-Var : goal.returns-in-Var
returns-in-Var c g = ap (own g) c.nothing-in-Var.ensures ∙ none_is g ∙ sym (ap (λ t. told_other (given_of g) c.args.size t) (term_var _ _ c.in-Var.is))

pub returns-in-Cell : goal.returns-in-Cell
returns-in-Cell c g = ap (own g) c.nothing-in-Cell.ensures ∙ none_is g ∙ sym (ap (λ t. told_other (given_of g) c.args.size t) (term_cell _ _ _ c.in-Cell.is))

pub returns-in-Load : goal.returns-in-Load
returns-in-Load c g = ap (own g) c.nothing-in-Load.ensures ∙ none_is g ∙ sym (ap (λ t. told_other (given_of g) c.args.size t) (term_load _ _ c.in-Load.is))

pub returns-in-Neg : goal.returns-in-Neg
returns-in-Neg c g = ap (own g) c.nothing-in-Neg.ensures ∙ none_is g ∙ sym (ap (λ t. told_other (given_of g) c.args.size t) (term_neg _ _ _ c.in-Neg.is))

pub returns-in-Not : goal.returns-in-Not
returns-in-Not c g = ap (own g) c.nothing-in-Not.ensures ∙ none_is g ∙ sym (ap (λ t. told_other (given_of g) c.args.size t) (term_not _ _ _ c.in-Not.is))

pub returns-in-Cast : goal.returns-in-Cast
returns-in-Cast c g = ap (own g) c.nothing-in-Cast.ensures ∙ none_is g ∙ sym (ap (λ t. told_other (given_of g) c.args.size t) (term_cast _ _ _ _ _ c.in-Cast.is))

pub returns-in-Bin : goal.returns-in-Bin
returns-in-Bin c g = ap (own g) c.nothing-in-Bin.ensures ∙ none_is g ∙ sym (ap (λ t. told_other (given_of g) c.args.size t) (term_bin _ _ _ _ _ c.in-Bin.is))
