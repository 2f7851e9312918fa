use Rattle.std.specs.Int.{w128}
use Rattle.std.proofs.Common.{rules, ap, sym, ◌∙◌}
use Rattle.std.proofs.lemmas.Int.{to_z-of_z}
use Rattle.jz_terms.specs.Terms.{num}
use Rattle.jz_facts.specs.Intervals.{of_shift}
use Rattle.jz_terms.proofs.TermForms.{term_bin, term_bool, term_cast, term_cell, term_load, term_neg, term_not, term_num, term_var}
use Rattle.jz_fact_readings.proofs.walk.shifted.Goals as goal

pub returns-in-Num : goal.returns-in-Num
returns-in-Num c = c.shifted_by_number.ensures c.in-Num.field-1 ∙ ap (λ i. of_shift c.args.size c.args.left (num i c.in-Num.field-1)) (to_z-of_z w128 c.in-Num.n (search rules)) ∙ sym (ap (λ t. of_shift c.args.size c.args.left t) (term_num _ _ _ c.in-Num.is))

pub returns-in-Bool : goal.returns-in-Bool
returns-in-Bool c = c.each.ensures ∙ sym (ap (λ t. of_shift c.args.size c.args.left t) (term_bool _ _ _ c.in-Bool.is))

pub returns-in-Var : goal.returns-in-Var
returns-in-Var c = c.each-in-Var.ensures ∙ sym (ap (λ t. of_shift c.args.size c.args.left t) (term_var _ _ c.in-Var.is))

pub returns-in-Cell : goal.returns-in-Cell
returns-in-Cell c = c.each-in-Cell.ensures ∙ sym (ap (λ t. of_shift c.args.size c.args.left t) (term_cell _ _ _ c.in-Cell.is))

pub returns-in-Load : goal.returns-in-Load
returns-in-Load c = c.each-in-Load.ensures ∙ sym (ap (λ t. of_shift c.args.size c.args.left t) (term_load _ _ c.in-Load.is))

pub returns-in-Neg : goal.returns-in-Neg
returns-in-Neg c = c.each-in-Neg.ensures ∙ sym (ap (λ t. of_shift c.args.size c.args.left t) (term_neg _ _ _ c.in-Neg.is))

pub returns-in-Not : goal.returns-in-Not
returns-in-Not c = c.each-in-Not.ensures ∙ sym (ap (λ t. of_shift c.args.size c.args.left t) (term_not _ _ _ c.in-Not.is))

pub returns-in-Cast : goal.returns-in-Cast
returns-in-Cast c = c.each-in-Cast.ensures ∙ sym (ap (λ t. of_shift c.args.size c.args.left t) (term_cast _ _ _ _ _ c.in-Cast.is))

pub returns-in-Bin : goal.returns-in-Bin
returns-in-Bin c = c.each-in-Bin.ensures ∙ sym (ap (λ t. of_shift c.args.size c.args.left t) (term_bin _ _ _ _ _ c.in-Bin.is))
