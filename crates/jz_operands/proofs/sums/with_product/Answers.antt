use Rattle.std.proofs.Common.{rules, subst, sym}
use Rattle.std.proofs.lemmas.Int.{to_z-of_z}
use Rattle.std.specs.Int.{w128}
use Rattle.jz_tree.specs.declared.expr.BinOp.TheVariants as op
use Rattle.jz_tree.specs.declared.expr.Expr.{Expr}
use Rattle.jz_tree.specs.declared.expr.Expr.TheVariants as expr
use Rattle.jz_operands.specs.TableHomes.{homes_of}
use Rattle.jz_operands.specs.Refusals.{FindsOr}
use Rattle.jz_operands.specs.InnerSums.{SumsBefore, NeverBefore}
use Rattle.jz_operands.proofs.SumRefusals.{no_product, var_no_num, num_no_var, neither}
use Rattle.jz_operands.proofs.sums.with_product.Goals as goal

pub returns-in-Num-b : goal.returns-in-Num-b
returns-in-Num-b c = λ here.
    let home = homes_of c.args.homes.now in
    subst (λ x. FindsOr c.with_multiple.result (SumsBefore home (expr.Bin op.Mul x c.args.b.now here) c.args.rest) (NeverBefore home (expr.Bin op.Mul x c.args.b.now here) c.args.rest)) (sym c.in-Var.is)
    (subst (λ y. FindsOr c.with_multiple.result (SumsBefore home (expr.Bin op.Mul (expr.Var c.in-Var.var) y here) c.args.rest) (NeverBefore home (expr.Bin op.Mul (expr.Var c.in-Var.var) y here) c.args.rest)) (sym c.in-Num-b.is)
    (subst (λ i. FindsOr c.with_multiple.result (SumsBefore home (expr.Bin op.Mul (expr.Var c.in-Var.var) (expr.Num i c.in-Num-b.field-1) here) c.args.rest) (NeverBefore home (expr.Bin op.Mul (expr.Var c.in-Var.var) (expr.Num i c.in-Num-b.field-1) here) c.args.rest)) (to_z-of_z w128 c.in-Num-b.factor (search rules))
    (c.with_multiple.ensures.right c.in-Num-b.field-1 here)))

pub returns-in-Var-b : goal.returns-in-Var-b
returns-in-Var-b c = λ here.
    let home = homes_of c.args.homes.now in
    subst (λ x. FindsOr c.with_multiple-in-Var-b.result (SumsBefore home (expr.Bin op.Mul x c.args.b.now here) c.args.rest) (NeverBefore home (expr.Bin op.Mul x c.args.b.now here) c.args.rest)) (sym c.in-Num.is)
    (subst (λ y. FindsOr c.with_multiple-in-Var-b.result (SumsBefore home (expr.Bin op.Mul (expr.Num c.in-Num.factor c.in-Num.field-1) y here) c.args.rest) (NeverBefore home (expr.Bin op.Mul (expr.Num c.in-Num.factor c.in-Num.field-1) y here) c.args.rest)) (sym c.in-Var-b.is)
    (subst (λ i. FindsOr c.with_multiple-in-Var-b.result (SumsBefore home (expr.Bin op.Mul (expr.Num i c.in-Num.field-1) (expr.Var c.in-Var-b.var) here) c.args.rest) (NeverBefore home (expr.Bin op.Mul (expr.Num i c.in-Num.field-1) (expr.Var c.in-Var-b.var) here) c.args.rest)) (to_z-of_z w128 c.in-Num.factor (search rules))
    (c.with_multiple-in-Var-b.ensures.left c.in-Num.field-1 here)))

pub returns-in_default-b : goal.returns-in_default-b
returns-in_default-b c = λ here.
    no_product (homes_of c.args.homes.now) c.args.a.now c.args.b.now here c.args.rest (var_no_num (homes_of c.args.homes.now) c.args.a.now c.args.b.now c.in-Var.var c.in-Var.is (search rules))

pub returns-in_default-b-2 : goal.returns-in_default-b-2
returns-in_default-b-2 c = λ here.
    no_product (homes_of c.args.homes.now) c.args.a.now c.args.b.now here c.args.rest (num_no_var (homes_of c.args.homes.now) c.args.a.now c.args.b.now c.in-Num.factor c.in-Num.field-1 c.in-Num.is (search rules))

pub returns-in_default : goal.returns-in_default
returns-in_default c = λ here.
    no_product (homes_of c.args.homes.now) c.args.a.now c.args.b.now here c.args.rest (neither (homes_of c.args.homes.now) c.args.a.now c.args.b.now (search rules) (search rules))
