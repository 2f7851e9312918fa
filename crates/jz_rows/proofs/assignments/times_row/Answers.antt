use Rattle.std.proofs.Common.{ap, rules, sym, ◌∙◌}
use Rattle.std.specs.Prelude.{not}
use Rattle.jz_rows.proofs.RowLemmas.{not_imm, times_is}
use Rattle.jz_operands.specs.TableHomes.{homes_of}
use Rattle.jz_operands.proofs.SumLemmas.{none_or}
use Rattle.jz_row_operations.specs.Table.{brought}
use Rattle.jz_operations.specs.declared.operation.Arg.TheVariants as arg
use Rattle.jz_rows.proofs.RowRules.{times_narrow, times_first, times_second, times_imm, times_register, times_brought}
use Rattle.jz_tree.specs.declared.expr.Expr.TheVariants as expr
use Rattle.jz_tree.specs.declared.expr.BinOp.TheVariants as op
use Rattle.jz_rows.specs.Found.{IsRow}
use Rattle.jz_rows.proofs.assignments.times_row.Goals as goal

pub returns : goal.returns
returns c = λ at.
    times_is (homes_of c.args.target.now.homes.now) c.args.target.now.size c.args.target.now.to.now at c.in_ok-register.register (not c.is_imm-swaps.result) c.in_ok-brought.brought (c.is_wide.ensures.yes c.if-not-is_wide.false) (ap not c.is_imm-swaps.ensures) c.in_ok-x.ensures c.in_ok-y.ensures c.in_ok-register.ensures
    (not_imm c.in_ok-y.y.arg (sym c.is_imm.ensures ∙ c.if-is_imm.false)) c.in_ok-brought.ensures

pub returns-then-not-is_wide : goal.returns-then-not-is_wide
returns-then-not-is_wide c = λ at.
    times_narrow c.args.target.now c.args.first.now c.args.second.now at (c.is_wide.ensures.no c.if-not-is_wide.true)

pub returns-in_err-x : goal.returns-in_err-x
returns-in_err-x c = λ at.
    none_or (IsRow c.args.target.now (expr.Bin op.Mul c.args.first.now c.args.second.now at)) c.from_residual.result (search rules) (times_first c.args.target.now c.args.first.now c.args.second.now at c.in_err-x.ensures)

pub returns-in_err-y : goal.returns-in_err-y
returns-in_err-y c = λ at.
    none_or (IsRow c.args.target.now (expr.Bin op.Mul c.args.first.now c.args.second.now at)) c.from_residual-in_err-y.result (search rules) (times_second c.args.target.now c.args.first.now c.args.second.now at c.in_err-y.ensures)

pub returns-then-is_imm : goal.returns-then-is_imm
returns-then-is_imm c = λ at.
    times_imm c.args.target.now c.args.first.now c.args.second.now at c.in_ok-y.y c.in_ok-y.ensures (sym c.is_imm.ensures ∙ c.if-is_imm.true)

pub returns-in_err-register : goal.returns-in_err-register
returns-in_err-register c = λ at.
    none_or (IsRow c.args.target.now (expr.Bin op.Mul c.args.first.now c.args.second.now at)) c.from_residual-in_err-register.result (search rules) (times_register c.args.target.now c.args.first.now c.args.second.now at c.in_err-register.ensures)

pub returns-in_err-brought : goal.returns-in_err-brought
returns-in_err-brought c = λ at.
    none_or (IsRow c.args.target.now (expr.Bin op.Mul c.args.first.now c.args.second.now at)) c.from_residual-in_err-brought.result (search rules) (times_brought c.args.target.now c.args.first.now c.args.second.now at c.in_ok-x.x c.in_ok-y.y c.in_ok-register.register c.in_ok-x.ensures c.in_ok-y.ensures c.in_ok-register.ensures (ap (λ s. brought (not s) c.args.target.now.size (arg.Var c.in_ok-register.register) c.in_ok-x.x.arg c.in_ok-y.y.arg) (sym c.is_imm-swaps.ensures) ∙ c.in_err-brought.ensures))
