use Rattle.std.proofs.Common.{ap, of_z, rules, sym, to_z, w32, w64, ◌∙◌}
use Rattle.std.proofs.lemmas.Int.{to_z-of_z}
use Rattle.jz_operations.specs.declared.operation.Arg.TheVariants as arg
use Rattle.jz_operands.specs.TableHomes.{homes_of}
use Rattle.jz_rows.proofs.RowLemmas.{not_imm, number_is, times_by_is}
use Rattle.jz_operands.proofs.SumLemmas.{none_or}
use Rattle.jz_rows.proofs.RowRules.{by_narrow, by_first, by_imm, by_second, by_no_number, by_long, by_register}
use Rattle.jz_tree.specs.declared.expr.Expr.TheVariants as expr
use Rattle.jz_tree.specs.declared.expr.BinOp.TheVariants as op
use Rattle.jz_rows.specs.Found.{IsRow}
use Rattle.jz_rows.proofs.assignments.times_by_row.Goals as goal

pub returns : goal.returns
returns c = λ at.
    let y = c.in_ok-y.y in
    let n = c.in_ok-number.number in
    let i = to_z w32 (of_z w32 n) in
    times_by_is (homes_of c.args.target.now.homes.now) c.args.target.now.size c.args.target.now.to.now c.in_ok-x.x at c.in_ok-register.register i c.told.result (c.is_wide.ensures.yes c.if-not-is_wide.false) c.in_ok-x.ensures
    (number_is y i c.in_ok-y.ensures
    (c.in_ok-long.ensures.0 ∙ ap arg.Imm (sym (to_z-of_z w64 c.in_ok-long.long (search rules)) ∙ sym c.in_ok-number.ensures ∙ sym (to_z-of_z w32 n (search rules)))) c.in_ok-long.ensures.1)
    c.in_ok-register.ensures (not_imm c.in_ok-x.x.arg (sym c.is_imm.ensures ∙ c.if-is_imm.false)) c.told.ensures

pub returns-then-not-is_wide : goal.returns-then-not-is_wide
returns-then-not-is_wide c = λ at.
    by_narrow c.args.target.now c.args.first.now c.args.second.now at (c.is_wide.ensures.no c.if-not-is_wide.true)

pub returns-in_err-x : goal.returns-in_err-x
returns-in_err-x c = λ at.
    none_or (IsRow c.args.target.now (expr.Bin op.Mul c.args.first.now c.args.second.now at)) c.from_residual.result (search rules) (by_first c.args.target.now c.args.first.now c.args.second.now at c.in_err-x.ensures)

pub returns-then-is_imm : goal.returns-then-is_imm
returns-then-is_imm c = λ at.
    by_imm c.args.target.now c.args.first.now c.args.second.now at c.in_ok-x.x c.in_ok-x.ensures (sym c.is_imm.ensures ∙ c.if-is_imm.true)

pub returns-in_err-y : goal.returns-in_err-y
returns-in_err-y c = λ at.
    none_or (IsRow c.args.target.now (expr.Bin op.Mul c.args.first.now c.args.second.now at)) c.from_residual-in_err-y.result (search rules) (by_second c.args.target.now c.args.first.now c.args.second.now at c.in_err-y.ensures)

pub returns-in_err-long : goal.returns-in_err-long
returns-in_err-long c = λ at.
    none_or (IsRow c.args.target.now (expr.Bin op.Mul c.args.first.now c.args.second.now at)) c.from_residual-in_err-long.result (search rules) (by_no_number c.args.target.now c.args.first.now c.args.second.now at c.in_ok-y.y c.in_ok-y.ensures c.in_err-long.ensures)

pub returns-in_err-number : goal.returns-in_err-number
returns-in_err-number c = λ at.
    none_or (IsRow c.args.target.now (expr.Bin op.Mul c.args.first.now c.args.second.now at)) c.from_residual-in_err-number.result (search rules) (by_long c.args.target.now c.args.first.now c.args.second.now at c.in_ok-y.y (to_z w64 (of_z w64 c.in_ok-long.long)) c.in_ok-y.ensures (c.in_ok-long.ensures.0 ∙ ap arg.Imm (sym (to_z-of_z w64 c.in_ok-long.long (search rules)))) c.in_err-number.ensures)

pub returns-in_err-register : goal.returns-in_err-register
returns-in_err-register c = λ at.
    none_or (IsRow c.args.target.now (expr.Bin op.Mul c.args.first.now c.args.second.now at)) c.from_residual-in_err-register.result (search rules) (by_register c.args.target.now c.args.first.now c.args.second.now at c.in_err-register.ensures)
