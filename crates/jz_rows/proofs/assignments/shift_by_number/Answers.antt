use Rattle.std.proofs.Common.{pos, refl, rules, subst, sym, ◌∙◌}
use Rattle.std.proofs.lemmas.Int.{to_z-of_z}
use Rattle.std.specs.Int.{w128}
use Rattle.jz_tree.specs.declared.expr.Expr.TheVariants as expr
use Rattle.jz_operations.specs.declared.operation.Action.TheVariants as action
use Rattle.jz_rows.specs.Found.{IsRow}
use Rattle.jz_rows.proofs.RowLemmas.{not_imm, row_behind, shift_is}
use Rattle.jz_operands.specs.TableHomes.{homes_of}
use Rattle.jz_operands.proofs.SumLemmas.{none_or}
use Rattle.jz_operands.specs.declared.operands.Leaks.TheVariants.{Silent}
use Rattle.jz_row_operations.specs.Table.{nothing}
use Rattle.jz_rows.proofs.RowRules.{num_same, no_shift_op, no_count, shift_operand, shift_imm, shift_dest, shift_brought}
use Rattle.jz_rows.proofs.assignments.shift_by_number.Goals as goal

pub returns : goal.returns
returns c = λ there at.
    let n = c.in_ok-places.places in
    subst (λ i. IsRow c.args.target.now (expr.Bin c.args.op c.args.first.now (expr.Num i there) at) (row_behind c.in_ok-brought.brought (action.Shift c.in_ok-kind.kind c.args.target.now.size c.in_ok-to.to.arg n))) (sym (sym (to_z-of_z w128 c.args.number c.ranges.number) ∙ c.in_ok-places.ensures.0))
    (shift_is (homes_of c.args.target.now.homes.now) c.args.target.now.size c.args.target.now.to.now c.in_ok-to.to n there at c.in_ok-kind.kind _ c.in_ok-brought.brought refl c.in_ok-kind.ensures.0 c.in_ok-kind.ensures.1 c.in_ok-places.ensures.1 c.in_ok-x.ensures c.in_ok-to.ensures
    (not_imm c.in_ok-x.x.arg (sym c.is_imm.ensures ∙ c.if-is_imm.false)) c.in_ok-brought.ensures)

pub returns-in_err-kind : goal.returns-in_err-kind
returns-in_err-kind c = λ there at.
    none_or (IsRow c.args.target.now (expr.Bin c.args.op c.args.first.now (expr.Num c.args.number there) at)) c.from_residual.result (search rules) (no_shift_op c.args.target.now c.args.op c.args.first.now (expr.Num c.args.number there) at c.in_err-kind.ensures)

pub returns-in_err-places : goal.returns-in_err-places
returns-in_err-places c = λ there at.
    none_or (IsRow c.args.target.now (expr.Bin c.args.op c.args.first.now (expr.Num c.args.number there) at)) c.from_residual-in_err-places.result (search rules) (no_count c.args.target.now c.args.op c.args.first.now (expr.Num c.args.number there) at (λ n here e less. c.in_err-places.ensures n (to_z-of_z w128 c.args.number c.ranges.number ∙ num_same c.args.number (pos n) there here e) less))

pub returns-in_err-x : goal.returns-in_err-x
returns-in_err-x c = λ there at.
    none_or (IsRow c.args.target.now (expr.Bin c.args.op c.args.first.now (expr.Num c.args.number there) at)) c.from_residual-in_err-x.result (search rules) (shift_operand c.args.target.now c.args.op c.args.first.now (expr.Num c.args.number there) at c.in_err-x.ensures)

pub returns-then-is_imm : goal.returns-then-is_imm
returns-then-is_imm c = λ there at.
    shift_imm c.args.target.now c.args.op c.args.first.now (expr.Num c.args.number there) at c.in_ok-x.x c.in_ok-x.ensures (sym c.is_imm.ensures ∙ c.if-is_imm.true)

pub returns-in_err-to : goal.returns-in_err-to
returns-in_err-to c = λ there at.
    none_or (IsRow c.args.target.now (expr.Bin c.args.op c.args.first.now (expr.Num c.args.number there) at)) c.from_residual-in_err-to.result (search rules) (shift_dest c.args.target.now c.args.op c.args.first.now (expr.Num c.args.number there) at c.in_err-to.ensures)

pub returns-in_err-brought : goal.returns-in_err-brought
returns-in_err-brought c = λ there at.
    none_or (IsRow c.args.target.now (expr.Bin c.args.op c.args.first.now (expr.Num c.args.number there) at)) c.from_residual-in_err-brought.result (search rules) (shift_brought c.args.target.now c.args.op c.args.first.now (expr.Num c.args.number there) at c.in_ok-x.x (record { arg = nothing; leaks = Silent }) c.in_ok-to.to refl c.in_ok-x.ensures c.in_ok-to.ensures c.in_err-brought.ensures)
