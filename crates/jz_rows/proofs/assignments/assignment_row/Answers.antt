use Rattle.std.proofs.Common.{sym, subst}
use Rattle.x64_insn.specs.declared.types.One.TheVariants as one
use Rattle.jz_tree.specs.declared.expr.Expr.TheVariants as expr
use Rattle.jz_row_operations.specs.Rows.{IsSign, a_minus, a_not}
use Rattle.jz_rows.proofs.FoundRows.{num_finds, var_finds, cell_finds, load_finds, minus_finds, denial_finds, any_cast, any_bin, truth_row}
use Rattle.jz_rows.proofs.assignments.assignment_row.Goals as goal

pub returns-in-Num : goal.returns-in-Num
returns-in-Num c = num_finds c.args.target.now c.move_row.result c.args.value.now c.in-Num.field-0 c.in-Num.field-1 c.in-Num.is c.move_row.ensures

pub returns-in-Bool : goal.returns-in-Bool
returns-in-Bool c = truth_row c.args.target.now c.args.value.now c.in-Bool.field-0 c.in-Bool.field-1 c.in-Bool.is

pub returns-in-Var : goal.returns-in-Var
returns-in-Var c = var_finds c.args.target.now c.move_row-in-Var.result c.args.value.now c.in-Var.field-0 c.in-Var.is c.move_row-in-Var.ensures

pub returns-in-Cell : goal.returns-in-Cell
returns-in-Cell c = cell_finds c.args.target.now c.move_row-in-Cell.result c.args.value.now c.in-Cell.field-0 c.in-Cell.field-1 c.in-Cell.is c.move_row-in-Cell.ensures

pub returns-in-Load : goal.returns-in-Load
returns-in-Load c = load_finds c.args.target.now c.move_row-in-Load.result c.args.value.now c.in-Load.field-0 c.in-Load.is c.move_row-in-Load.ensures

pub returns-in-Neg : goal.returns-in-Neg
returns-in-Neg c =
    minus_finds c.args.target.now c.sign_row.result c.args.value.now c.in-Neg.operand c.in-Neg.field-1 c.in-Neg.is
    (c.sign_row.ensures c.args.value.now
    (subst (λ e. IsSign one.Neg e c.get.result.now) (sym c.in-Neg.is)
    (subst (λ a. IsSign one.Neg (expr.Neg c.in-Neg.operand c.in-Neg.field-1) a) (sym c.get.ensures) (a_minus c.in-Neg.operand c.in-Neg.field-1))))

pub returns-in-Not : goal.returns-in-Not
returns-in-Not c =
    denial_finds c.args.target.now c.sign_row-in-Not.result c.args.value.now c.in-Not.operand c.in-Not.field-1 c.in-Not.is
    (c.sign_row-in-Not.ensures c.args.value.now
    (subst (λ e. IsSign one.Not e c.get-in-Not.result.now) (sym c.in-Not.is)
    (subst (λ a. IsSign one.Not (expr.Not c.in-Not.operand c.in-Not.field-1) a) (sym c.get-in-Not.ensures) (a_not c.in-Not.operand c.in-Not.field-1))))

pub returns-in-Cast : goal.returns-in-Cast
returns-in-Cast c =
    any_cast c.args.target.now c.cast_row.result c.args.value.now c.in-Cast.size c.in-Cast.signed c.in-Cast.e c.get-in-Cast.result.now c.in-Cast.span c.in-Cast.is c.get-in-Cast.ensures (c.cast_row.ensures c.in-Cast.span)

pub returns-in-Bin : goal.returns-in-Bin
returns-in-Bin c =
    any_bin c.args.target.now c.operation_row.result c.args.value.now c.in-Bin.op c.in-Bin.first c.in-Bin.second c.get-in-Bin.result.now c.get-in-Bin-2.result.now c.in-Bin.field-3 c.in-Bin.is c.get-in-Bin.ensures c.get-in-Bin-2.ensures (c.operation_row.ensures c.in-Bin.field-3)
