use Rattle.std.proofs.Common.{rules, sym, ◌∙◌}
use Rattle.jz_rows.proofs.RowLemmas.{not_imm, extend_is}
use Rattle.jz_operands.specs.TableHomes.{homes_of}
use Rattle.jz_operands.proofs.SumLemmas.{none_or}
use Rattle.jz_rows.proofs.RowRules.{extend_no_size, extend_large, extend_operand, extend_imm, extend_register}
use Rattle.jz_tree.specs.declared.expr.Expr.TheVariants as expr
use Rattle.jz_rows.specs.Found.{IsRow}
use Rattle.jz_rows.proofs.assignments.extend_row.Goals as goal

pub returns : goal.returns
returns c = λ at.
    extend_is (homes_of c.args.target.now.homes.now) c.args.target.now.size c.args.target.now.to.now c.in_ok-y.y c.in_ok-from.from c.in_ok-register.register c.args.signed at c.told.result (sym c.in_ok-from.ensures) (c.is_below.ensures.yes c.if-not-is_below.false) c.in_ok-y.ensures (not_imm c.in_ok-y.y.arg (sym c.is_imm.ensures ∙ c.if-is_imm.false)) c.in_ok-register.ensures c.told.ensures

pub returns-in_err-from : goal.returns-in_err-from
returns-in_err-from c = λ at.
    none_or (IsRow c.args.target.now (expr.Cast c.args.target.now.size c.args.signed c.args.operand.now at)) c.from_residual.result (search rules) (extend_no_size c.args.target.now c.args.signed c.args.operand.now at (sym c.own_size.ensures ∙ c.in_err-from.was))

pub returns-then-not-is_below : goal.returns-then-not-is_below
returns-then-not-is_below c = λ at.
    extend_large c.args.target.now c.args.signed c.args.operand.now at c.in_ok-from.from (sym c.in_ok-from.ensures) (c.is_below.ensures.no c.if-not-is_below.true)

pub returns-in_err-y : goal.returns-in_err-y
returns-in_err-y c = λ at.
    none_or (IsRow c.args.target.now (expr.Cast c.args.target.now.size c.args.signed c.args.operand.now at)) c.from_residual-in_err-y.result (search rules) (extend_operand c.args.target.now c.args.signed c.args.operand.now at c.in_ok-from.from (sym c.in_ok-from.ensures) c.in_err-y.ensures)

pub returns-then-is_imm : goal.returns-then-is_imm
returns-then-is_imm c = λ at.
    extend_imm c.args.target.now c.args.signed c.args.operand.now at c.in_ok-from.from c.in_ok-y.y (sym c.in_ok-from.ensures) c.in_ok-y.ensures (sym c.is_imm.ensures ∙ c.if-is_imm.true)

pub returns-in_err-register : goal.returns-in_err-register
returns-in_err-register c = λ at.
    none_or (IsRow c.args.target.now (expr.Cast c.args.target.now.size c.args.signed c.args.operand.now at)) c.from_residual-in_err-register.result (search rules) (extend_register c.args.target.now c.args.signed c.args.operand.now at c.in_err-register.ensures)
