use Rattle.std.specs.Int.{w128}
use Rattle.std.proofs.Common.{Some, map, ap, sym, ◌∙◌, rules}
use Rattle.std.specs.Prelude.{pos, ◌+ℤ◌, ◌-ℤ◌, reverse}
use Rattle.std.proofs.lemmas.Int.{to_z-of_z}
use Rattle.jz_meaning.specs.Values.{ref_of}
use Rattle.jz_wide.specs.Values.{sum}
use Rattle.jz_alarms.specs.Conditions.{joined, sum_of}
use Rattle.jz_inside.specs.InnerSums.{seen, scaled_of}
use Rattle.jz_inside.proofs.Summing.{number_sum, var_sum}
use Rattle.jz_terms.proofs.TermForms.{term_num, term_var, term_bool, term_cast, term_cell, term_load, term_neg, term_not}
use Rattle.jz_inside.proofs.sums.add_single.Goals as goal

pub returns-in-Bool : goal.returns-in-Bool
returns-in-Bool c = sym (ap (λ t. joined (sum_of t) (Some (seen c.args.sum.now))) (term_bool _ _ _ c.in-Bool.is))

pub returns-in-Cell : goal.returns-in-Cell
returns-in-Cell c = sym (ap (λ t. joined (sum_of t) (Some (seen c.args.sum.now))) (term_cell _ _ _ c.in-Cell.is))

pub returns-in-Load : goal.returns-in-Load
returns-in-Load c = sym (ap (λ t. joined (sum_of t) (Some (seen c.args.sum.now))) (term_load _ _ c.in-Load.is))

pub returns-in-Neg : goal.returns-in-Neg
returns-in-Neg c = sym (ap (λ t. joined (sum_of t) (Some (seen c.args.sum.now))) (term_neg _ _ _ c.in-Neg.is))

pub returns-in-Not : goal.returns-in-Not
returns-in-Not c = sym (ap (λ t. joined (sum_of t) (Some (seen c.args.sum.now))) (term_not _ _ _ c.in-Not.is))

pub returns-in-Cast : goal.returns-in-Cast
returns-in-Cast c = sym (ap (λ t. joined (sum_of t) (Some (seen c.args.sum.now))) (term_cast _ _ _ _ _ c.in-Cast.is))

pub returns-in_ok-add_number-in-Num : goal.returns-in_ok-add_number-in-Num
returns-in_ok-add_number-in-Num c =
    let s = c.args.sum.now in
    let m = pos (sum s.added.items) -ℤ pos (sum s.taken.items) in
    number_sum (map (λ v. ref_of v.now) (reverse s.plain.items)) (map scaled_of (reverse s.scaled.items)) m c.in-Num.n _
    (c.in_ok-add_number-in-Num.ensures ∙ ap (λ i. m +ℤ i) (to_z-of_z w128 c.in-Num.n (search rules)))
    ∙ sym (ap (λ t. joined (sum_of t) (Some (seen s))) (term_num _ _ _ c.in-Num.is))

pub returns-in_ok-push-in-Var : goal.returns-in_ok-push-in-Var
returns-in_ok-push-in-Var c =
    let s = c.args.sum.now in
    var_sum s.plain.items c.push.new.self.items _ (map scaled_of (reverse s.scaled.items)) (pos (sum s.added.items) -ℤ pos (sum s.taken.items)) c.in_ok-push-in-Var.ensures.items
    ∙ sym (ap (λ t. joined (sum_of t) (Some (seen s))) (term_var _ _ c.in-Var.is))
