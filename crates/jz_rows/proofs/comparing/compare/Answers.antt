use Rattle.std.proofs.Common.{rules, sym, ◌∙◌}
use Rattle.jz_row_operations.specs.Lowering.{compares}
use Rattle.jz_operands.specs.TableHomes.{homes_of}
use Rattle.jz_operands.proofs.SumLemmas.{none_or}
use Rattle.jz_rows.proofs.RowLemmas.{not_imm}
use Rattle.jz_rows.proofs.SettingRefusals.{clash, no_condition, no_size, no_first, no_second, first_imm, no_code}
use Rattle.jz_tree.specs.declared.expr.Expr.TheVariants as expr
use Rattle.jz_rows.specs.Rows.{Compares}
use Rattle.jz_rows.proofs.comparing.compare.Goals as goal

pub returns : goal.returns
returns c = λ here at.
    compares here c.in_ok-cond.ensures (sym c.in_ok-size.ensures) c.in_ok-x.ensures c.in_ok-y.ensures (not_imm c.in_ok-x.x.arg (sym c.is_imm.ensures ∙ c.if-is_imm.false))
    (sym c.can_encode.ensures ∙ c.if-not-can_encode.false)

pub returns-in_err-cond : goal.returns-in_err-cond
returns-in_err-cond c = λ here.
    none_or (Compares (homes_of c.args.homes.now) (expr.Bin c.args.op c.args.first.now c.args.second.now here)) c.from_residual.result (search rules) (no_condition (homes_of c.args.homes.now) c.args.op c.args.first.now c.args.second.now here c.in_err-cond.ensures)

pub returns-in_err-size : goal.returns-in_err-size
returns-in_err-size c = λ here.
    none_or (Compares (homes_of c.args.homes.now) (expr.Bin c.args.op c.args.first.now c.args.second.now here)) c.from_residual-in_err-size.result (search rules) (no_size (homes_of c.args.homes.now) c.args.op c.args.first.now c.args.second.now here (sym c.size_of_both.ensures ∙ c.in_err-size.was))

pub returns-in_err-x : goal.returns-in_err-x
returns-in_err-x c = λ here.
    none_or (Compares (homes_of c.args.homes.now) (expr.Bin c.args.op c.args.first.now c.args.second.now here)) c.from_residual-in_err-x.result (search rules) (no_first (homes_of c.args.homes.now) c.args.op c.args.first.now c.args.second.now here c.in_ok-size.size (sym c.in_ok-size.ensures) c.in_err-x.ensures)

pub returns-in_err-y : goal.returns-in_err-y
returns-in_err-y c = λ here.
    none_or (Compares (homes_of c.args.homes.now) (expr.Bin c.args.op c.args.first.now c.args.second.now here)) c.from_residual-in_err-y.result (search rules) (no_second (homes_of c.args.homes.now) c.args.op c.args.first.now c.args.second.now here c.in_ok-size.size (sym c.in_ok-size.ensures) c.in_err-y.ensures)

pub returns-then-is_imm : goal.returns-then-is_imm
returns-then-is_imm c = λ here.
    first_imm (homes_of c.args.homes.now) c.args.op c.args.first.now c.args.second.now here c.in_ok-size.size (sym c.in_ok-size.ensures) c.in_ok-x.x c.in_ok-x.ensures (sym c.is_imm.ensures ∙ c.if-is_imm.true)

pub returns-then-not-can_encode : goal.returns-then-not-can_encode
returns-then-not-can_encode c = λ here.
    no_code (homes_of c.args.homes.now) c.args.op c.args.first.now c.args.second.now here c.in_ok-size.size (sym c.in_ok-size.ensures) c.in_ok-x.x c.in_ok-y.y c.in_ok-x.ensures c.in_ok-y.ensures (λ can. clash c.can_encode.result c.if-not-can_encode.true (c.can_encode.ensures ∙ can))
