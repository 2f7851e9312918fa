use Rattle.std.proofs.Common.{pos, rules}
use Rattle.jz_tree.specs.declared.expr.BinOp.TheVariants as op
use Rattle.jz_tree.specs.declared.expr.Expr.TheVariants as expr
use Rattle.jz_row_operations.specs.Rows.{mask_of}
use Rattle.jz_operands.specs.TableHomes.{homes_of}
use Rattle.jz_operands.proofs.SumLemmas.{none_or}
use Rattle.jz_rows.specs.Found.{IsRow}
use Rattle.jz_rows.proofs.RowLemmas.{shift_by_is}
use Rattle.jz_rows.proofs.RowRules.{no_shift_by_op, variable_home, shift_by_operand, shift_by_dest, variable_brought}
use Rattle.jz_rows.proofs.assignments.shift_by_variable.Goals as goal

pub returns : goal.returns
returns c = λ there inner at.
    shift_by_is (homes_of c.args.target.now.homes.now) c.args.target.now.size c.args.target.now.to.now c.in_ok-to.to c.args.var.now there inner at c.in_ok-kind.kind c.in_ok-places.places c.in_ok-brought.brought c.in_ok-kind.ensures.0 c.in_ok-kind.ensures.1 c.in_ok-places.ensures.0 c.in_ok-places.ensures.1
    c.in_ok-x.ensures c.in_ok-to.ensures c.in_ok-brought.ensures

pub returns-in_err-kind : goal.returns-in_err-kind
returns-in_err-kind c = λ there inner at.
    let t = c.args.target.now in
    let count = expr.Bin op.And (expr.Var c.args.var.now) (expr.Num (pos (mask_of t.size)) there) inner in
    none_or (IsRow t (expr.Bin c.args.op c.args.first.now count at)) c.from_residual.result (search rules) (no_shift_by_op t c.args.op c.args.first.now count at c.in_err-kind.ensures)

pub returns-in_err-places : goal.returns-in_err-places
returns-in_err-places c = λ there inner at.
    let t = c.args.target.now in
    let count = expr.Bin op.And (expr.Var c.args.var.now) (expr.Num (pos (mask_of t.size)) there) inner in
    none_or (IsRow t (expr.Bin c.args.op c.args.first.now count at)) c.from_residual-in_err-places.result (search rules) (variable_home t c.args.op c.args.first.now c.args.var.now there inner at c.in_err-places.ensures)

pub returns-in_err-x : goal.returns-in_err-x
returns-in_err-x c = λ there inner at.
    let t = c.args.target.now in
    let count = expr.Bin op.And (expr.Var c.args.var.now) (expr.Num (pos (mask_of t.size)) there) inner in
    none_or (IsRow t (expr.Bin c.args.op c.args.first.now count at)) c.from_residual-in_err-x.result (search rules) (shift_by_operand t c.args.op c.args.first.now count at c.in_err-x.ensures)

pub returns-in_err-to : goal.returns-in_err-to
returns-in_err-to c = λ there inner at.
    let t = c.args.target.now in
    let count = expr.Bin op.And (expr.Var c.args.var.now) (expr.Num (pos (mask_of t.size)) there) inner in
    none_or (IsRow t (expr.Bin c.args.op c.args.first.now count at)) c.from_residual-in_err-to.result (search rules) (shift_by_dest t c.args.op c.args.first.now count at c.in_err-to.ensures)

pub returns-in_err-brought : goal.returns-in_err-brought
returns-in_err-brought c = λ there inner at.
    let t = c.args.target.now in
    let count = expr.Bin op.And (expr.Var c.args.var.now) (expr.Num (pos (mask_of t.size)) there) inner in
    none_or (IsRow t (expr.Bin c.args.op c.args.first.now count at)) c.from_residual-in_err-brought.result (search rules)
    (variable_brought t c.args.op c.args.first.now c.args.var.now there inner at c.in_ok-x.x c.in_ok-to.to c.in_ok-places.places.variable c.in_ok-x.ensures c.in_ok-to.ensures c.in_ok-places.ensures.0 c.in_err-brought.ensures)
