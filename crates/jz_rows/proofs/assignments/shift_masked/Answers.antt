use Rattle.std.proofs.Common.{ap, rules, sym, to_z, ◌∙◌}
use Rattle.std.proofs.lemmas.Int.{to_z-of_z}
use Rattle.std.specs.Int.{w128}
use Rattle.jz_rows.proofs.FoundRows.{variable_finds}
use Rattle.jz_rows.proofs.RowRules.{mask_no_variable, mask_no_number, other_mask}
use Rattle.jz_rows.proofs.assignments.shift_masked.Goals as goal

pub returns-then-number-mask_of : goal.returns-then-number-mask_of
returns-then-number-mask_of c = λ inner at.
    variable_finds c.args.target.now c.shift_by_variable.result c.args.op c.args.first.now c.args.var.now c.args.mask.now c.in-Var.var c.in-Num.number c.in-Num.field-1 inner at c.in-Var.is c.in-Num.is
    (sym (to_z-of_z w128 c.in-Num.number (search rules)) ∙ ap (to_z w128) c.if-number-mask_of.true ∙ to_z-of_z w128 c.mask_of.result (search rules) ∙ c.mask_of.ensures) (c.shift_by_variable.ensures c.in-Num.field-1 inner at)

pub returns-else-number-mask_of : goal.returns-else-number-mask_of
returns-else-number-mask_of c = λ inner at.
    other_mask c.args.target.now c.args.op c.args.first.now c.args.var.now c.args.mask.now inner at c.in-Num.number c.in-Num.field-1 c.in-Num.is (search rules)

pub returns-in_default-mask : goal.returns-in_default-mask
returns-in_default-mask c = λ inner at. mask_no_number c.args.target.now c.args.op c.args.first.now c.args.var.now c.args.mask.now inner at (search rules)

pub returns-in_default : goal.returns-in_default
returns-in_default c = λ inner at. mask_no_variable c.args.target.now c.args.op c.args.first.now c.args.var.now c.args.mask.now inner at (search rules)
