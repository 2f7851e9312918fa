use Rattle.std.proofs.Common.{rules, sym, ◌∙◌}
use Rattle.jz_rows.proofs.FoundRows.{any_shift, any_product, any_sum}
use Rattle.jz_rows.proofs.assignments.operation_row.Goals as goal

pub returns-then-is_shift : goal.returns-then-is_shift
returns-then-is_shift c = λ at.
    any_shift c.args.target.now c.shift_row.result c.args.op c.args.first.now c.args.second.now at (sym c.is_shift.ensures ∙ c.if-is_shift.true) (c.shift_row.ensures at)

pub returns-in-Mul : goal.returns-in-Mul
returns-in-Mul c = λ at.
    any_product c.args.target.now c.product_row.result c.args.op c.args.first.now c.args.second.now at c.in-Mul.is (c.product_row.ensures at)

pub returns-in_default : goal.returns-in_default
returns-in_default c = λ at.
    any_sum c.args.target.now c.sums_row.result c.args.op c.args.first.now c.args.second.now at (sym c.is_shift.ensures ∙ c.if-is_shift.false) (search rules) (c.sums_row.ensures at)
