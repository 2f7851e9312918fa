use Rattle.std.proofs.Common.{refl, rules, sym, ◌∙◌}
use Rattle.jz_rows.proofs.RowLemmas.{not_imm, sign_is}
use Rattle.jz_operands.specs.TableHomes.{homes_of}
use Rattle.jz_operands.proofs.SumLemmas.{none_or}
use Rattle.jz_operands.specs.declared.operands.Leaks.TheVariants.{Silent}
use Rattle.jz_row_operations.specs.Table.{nothing}
use Rattle.jz_rows.proofs.RowRules.{sign_operand, sign_imm, sign_dest, sign_brought}
use Rattle.jz_rows.specs.Found.{IsRow}
use Rattle.jz_rows.proofs.assignments.sign_row.Goals as goal

pub returns : goal.returns
returns c = λ e sign.
    sign_is (homes_of c.args.target.now.homes.now) c.args.target.now.size c.args.target.now.to.now c.in_ok-to.to _ c.in_ok-brought.brought refl sign c.in_ok-x.ensures c.in_ok-to.ensures (not_imm c.in_ok-x.x.arg (sym c.is_imm.ensures ∙ c.if-is_imm.false)) c.in_ok-brought.ensures

pub returns-in_err-x : goal.returns-in_err-x
returns-in_err-x c = λ e sign.
    none_or (IsRow c.args.target.now e) c.from_residual.result (search rules) (sign_operand c.args.target.now c.args.op e c.args.operand.now sign c.in_err-x.ensures)

pub returns-then-is_imm : goal.returns-then-is_imm
returns-then-is_imm c = λ e sign.
    sign_imm c.args.target.now c.args.op e c.args.operand.now sign c.in_ok-x.x c.in_ok-x.ensures (sym c.is_imm.ensures ∙ c.if-is_imm.true)

pub returns-in_err-to : goal.returns-in_err-to
returns-in_err-to c = λ e sign.
    none_or (IsRow c.args.target.now e) c.from_residual-in_err-to.result (search rules) (sign_dest c.args.target.now c.args.op e c.args.operand.now sign c.in_err-to.ensures)

pub returns-in_err-brought : goal.returns-in_err-brought
returns-in_err-brought c = λ e sign.
    none_or (IsRow c.args.target.now e) c.from_residual-in_err-brought.result (search rules) (sign_brought c.args.target.now c.args.op e c.args.operand.now sign c.in_ok-x.x (record { arg = nothing; leaks = Silent }) c.in_ok-to.to refl c.in_ok-x.ensures c.in_ok-to.ensures c.in_err-brought.ensures)
