use Rattle.std.proofs.Common.{ap, rules, sym, ◌∙◌}
use Rattle.jz_rows.proofs.RowLemmas.{not_both_imm, carry_is}
use Rattle.jz_operands.specs.TableHomes.{homes_of}
use Rattle.jz_operands.proofs.SumLemmas.{none_or}
use Rattle.jz_row_operations.specs.Table.{brought}
use Rattle.jz_rows.proofs.RowRules.{no_carry_op, no_flag, carry_first, carry_second, carry_imms, carry_dest, carry_brought}
use Rattle.jz_tree.specs.declared.expr.Expr.TheVariants as expr
use Rattle.jz_rows.specs.Found.{IsRow}
use Rattle.jz_rows.proofs.assignments.carry_row.Goals as goal

pub returns : goal.returns
returns c = λ inner at.
    carry_is (homes_of c.args.target.now.homes.now) c.args.target.now.size c.args.target.now.to.now c.in_ok-to.to inner at c.args.flag.now c.in_ok-carry.carry c.in_ok-alu.alu c.commutes.result c.in_ok-brought.brought c.in_ok-alu.ensures.0 c.in_ok-alu.ensures.1 c.commutes.ensures c.in_ok-carry.ensures.0 c.in_ok-carry.ensures.1
    c.in_ok-x.ensures c.in_ok-y.ensures c.in_ok-to.ensures
    (not_both_imm c.in_ok-x.x.arg c.in_ok-y.y.arg (sym c.are_imm.ensures ∙ c.if-are_imm.false)) c.in_ok-brought.ensures

pub returns-in_err-alu : goal.returns-in_err-alu
returns-in_err-alu c = λ inner at.
    none_or (IsRow c.args.target.now (expr.Bin c.args.op (expr.Bin c.args.op c.args.first.now c.args.second.now inner) (expr.Var c.args.flag.now) at)) c.from_residual.result (search rules) (no_carry_op c.args.target.now c.args.op c.args.first.now c.args.second.now inner c.args.flag.now at c.in_err-alu.ensures)

pub returns-in_err-carry : goal.returns-in_err-carry
returns-in_err-carry c = λ inner at.
    none_or (IsRow c.args.target.now (expr.Bin c.args.op (expr.Bin c.args.op c.args.first.now c.args.second.now inner) (expr.Var c.args.flag.now) at)) c.from_residual-in_err-carry.result (search rules) (no_flag c.args.target.now c.args.op c.args.first.now c.args.second.now inner c.args.flag.now at c.in_err-carry.ensures)

pub returns-in_err-x : goal.returns-in_err-x
returns-in_err-x c = λ inner at.
    none_or (IsRow c.args.target.now (expr.Bin c.args.op (expr.Bin c.args.op c.args.first.now c.args.second.now inner) (expr.Var c.args.flag.now) at)) c.from_residual-in_err-x.result (search rules) (carry_first c.args.target.now c.args.op c.args.first.now c.args.second.now inner c.args.flag.now at c.in_err-x.ensures)

pub returns-in_err-y : goal.returns-in_err-y
returns-in_err-y c = λ inner at.
    none_or (IsRow c.args.target.now (expr.Bin c.args.op (expr.Bin c.args.op c.args.first.now c.args.second.now inner) (expr.Var c.args.flag.now) at)) c.from_residual-in_err-y.result (search rules) (carry_second c.args.target.now c.args.op c.args.first.now c.args.second.now inner c.args.flag.now at c.in_err-y.ensures)

pub returns-then-are_imm : goal.returns-then-are_imm
returns-then-are_imm c = λ inner at.
    carry_imms c.args.target.now c.args.op c.args.first.now c.args.second.now inner c.args.flag.now at c.in_ok-x.x c.in_ok-y.y c.in_ok-x.ensures c.in_ok-y.ensures (sym c.are_imm.ensures ∙ c.if-are_imm.true)

pub returns-in_err-to : goal.returns-in_err-to
returns-in_err-to c = λ inner at.
    none_or (IsRow c.args.target.now (expr.Bin c.args.op (expr.Bin c.args.op c.args.first.now c.args.second.now inner) (expr.Var c.args.flag.now) at)) c.from_residual-in_err-to.result (search rules) (carry_dest c.args.target.now c.args.op c.args.first.now c.args.second.now inner c.args.flag.now at c.in_err-to.ensures)

pub returns-in_err-brought : goal.returns-in_err-brought
returns-in_err-brought c = λ inner at.
    none_or (IsRow c.args.target.now (expr.Bin c.args.op (expr.Bin c.args.op c.args.first.now c.args.second.now inner) (expr.Var c.args.flag.now) at)) c.from_residual-in_err-brought.result (search rules) (carry_brought c.args.target.now c.args.op c.args.first.now c.args.second.now inner c.args.flag.now at c.in_ok-x.x c.in_ok-y.y c.in_ok-to.to c.in_ok-x.ensures c.in_ok-y.ensures c.in_ok-to.ensures (ap (λ s. brought s c.args.target.now.size c.in_ok-to.to.arg c.in_ok-x.x.arg c.in_ok-y.y.arg) (sym c.commutes.ensures) ∙ c.in_err-brought.ensures))
