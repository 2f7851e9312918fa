use Rattle.std.specs.Int.{w128}
use Rattle.std.proofs.Common.{Some, map, ap, sym, ◌∙◌, rules}
use Rattle.std.specs.Prelude.{pos, ◌+ℤ◌, ◌-ℤ◌, reverse}
use Rattle.std.proofs.lemmas.Int.{to_z-of_z}
use Rattle.jz_meaning.specs.Values.{ref_of}
use Rattle.jz_wide.specs.Values.{sum}
use Rattle.jz_alarms.specs.Conditions.{Sum}
use Rattle.jz_inside.specs.InnerSums.{seen, scaled_of, taken_from}
use Rattle.jz_inside.proofs.Summing.{turned, with_more}
use Rattle.jz_terms.proofs.TermForms.{term_num, term_bin, term_bool, term_cast, term_cell, term_load, term_neg, term_not, term_var}
use Rattle.jz_inside.proofs.sums.take_number.Goals as goal

pub returns-in-Bool : goal.returns-in-Bool
returns-in-Bool c = sym (ap (taken_from (seen c.args.sum.now)) (term_bool _ _ _ c.in-Bool.is))

pub returns-in-Var : goal.returns-in-Var
returns-in-Var c = sym (ap (taken_from (seen c.args.sum.now)) (term_var _ _ c.in-Var.is))

pub returns-in-Cell : goal.returns-in-Cell
returns-in-Cell c = sym (ap (taken_from (seen c.args.sum.now)) (term_cell _ _ _ c.in-Cell.is))

pub returns-in-Load : goal.returns-in-Load
returns-in-Load c = sym (ap (taken_from (seen c.args.sum.now)) (term_load _ _ c.in-Load.is))

pub returns-in-Neg : goal.returns-in-Neg
returns-in-Neg c = sym (ap (taken_from (seen c.args.sum.now)) (term_neg _ _ _ c.in-Neg.is))

pub returns-in-Not : goal.returns-in-Not
returns-in-Not c = sym (ap (taken_from (seen c.args.sum.now)) (term_not _ _ _ c.in-Not.is))

pub returns-in-Cast : goal.returns-in-Cast
returns-in-Cast c = sym (ap (taken_from (seen c.args.sum.now)) (term_cast _ _ _ _ _ c.in-Cast.is))

pub returns-in-Bin : goal.returns-in-Bin
returns-in-Bin c = sym (ap (taken_from (seen c.args.sum.now)) (term_bin _ _ _ _ _ c.in-Bin.is))

pub returns-in_ok-add_number-in-Num : goal.returns-in_ok-add_number-in-Num
returns-in_ok-add_number-in-Num c =
    let s = c.args.sum.now in
    let p = pos (sum s.taken.items) in
    let t = pos (sum s.added.items) in
    with_more (map (λ v. ref_of v.now) (reverse s.plain.items)) (map scaled_of (reverse s.scaled.items)) _ _
    (turned p t (pos (sum c.add_number.new.more.items)) (pos (sum c.add_number.new.less.items)) c.in-Num.n (c.in_ok-add_number-in-Num.ensures ∙ ap (λ i. (p -ℤ t) +ℤ i) (to_z-of_z w128 c.in-Num.n (search rules))))
    ∙ sym (ap (taken_from (seen s)) (term_num _ _ _ c.in-Num.is))
