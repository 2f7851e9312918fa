use Rattle.std.proofs.Common.{◌≡◌, ◌∙◌, ap, sym, arith}
use Rattle.jz_tree.specs.declared.expr.Expr.{size-Expr}
use Rattle.jz_tree.specs.declared.expr.Expr.TheVariants.{Bin}
use Rattle.jz_tree.specs.LeftSides.{on_left}
use Rattle.jz_tree.proofs.Sides.{last_step, left_smaller}
use Rattle.jz_tree.proofs.expr.+copy.Goals as goal

pub Expr::copy_side-loop-rest-preserved : goal.Expr::copy_side-loop-rest-preserved
Expr::copy_side-loop-rest-preserved t c =
    let whole : Bin c.in-Bin.op c.get-rest.result.now c.in_ok-copy.field-0 c.in-Bin.span ≡ c.loop-rest.rest.now =
    rw (c.get-rest.ensures, c.in_ok-copy.ensures, c.get.ensures) (sym c.in-Bin.is) in (
      ap (λ steps. on_left steps c.get-rest.result.now) c.in_ok-push.ensures.items
          ∙ last_step _ _ _
          ∙ ap (on_left c.loop-rest.steps.items) whole
          ∙ c.loop-rest.invariant.0,
      omega (arith, left_smaller c.in-Bin.op c.get-rest.result.now c.in_ok-copy.field-0 c.in-Bin.span, ap size-Expr whole, c.loop-rest.invariant.1),
    )
