use Rattle.std.proofs.Common.{true, refl, sym, subst, ap, ◌∙◌}
use Rattle.jz_tree.specs.declared.expr.Expr.TheVariants as expr
use Rattle.jz_operands.specs.TableHomes.{homes_of}
use Rattle.jz_lowering.specs.InnerParts.{IsLoopTest, TestOr, LoopTestOr}
use Rattle.jz_homing.proofs.HandedOn.{handed}
use Rattle.jz_lowering.proofs.PartsInOrder.{no_loop_test, false_refused}
use Rattle.jz_lowering.proofs.PartLemmas.{always_is, loop_test_is}
use Rattle.jz_lowering.proofs.parts.loop_test_at.Goals as goal

pub returns-then-truth : goal.returns-then-truth
returns-then-truth c =
    let home = homes_of c.args.homes.now in
    subst (IsLoopTest home c.args.span c.args.cond.now) (sym c.always.ensures)
    (always_is home c.args.span c.in-Bool.field-1 c.args.cond.now (c.in-Bool.is ∙ ap (λ b. expr.Bool b c.in-Bool.field-1) c.if-truth.true))

pub returns-in_ok-made-in_default : goal.returns-in_ok-made-in_default
returns-in_ok-made-in_default c = loop_test_is (homes_of c.args.homes.now) c.args.span c.args.cond.now c.in_ok-made-in_default.made c.in_ok-made-in_default.ensures

pub returns-else-truth : goal.returns-else-truth
returns-else-truth c =
    (refl, false_refused (homes_of c.args.homes.now) (record { cond = c.args.cond.now; at = c.args.span }) c.in-Bool.field-1 (c.in-Bool.is ∙ ap (λ b. expr.Bool b c.in-Bool.field-1) c.if-truth.false))

pub returns-in_err-made-in_default : goal.returns-in_err-made-in_default
returns-in_err-made-in_default c =
    let home = homes_of c.args.homes.now in
    handed (TestOr home c.args.span c.args.cond.now) (LoopTestOr home c.args.span c.args.cond.now) c.from_residual.result c.in_err-made-in_default.field-0.0 c.from_residual.ensures.1 c.in_err-made-in_default.ensures
    (λ at e. (e.0, no_loop_test home (record { cond = c.args.cond.now; at = c.args.span }) e.1 (λ here f. c.in_default.not-Bool true here f)))
