use Rattle.std.proofs.Common.{◌≡◌, ◌∙◌, ap, sym, arith}
use Rattle.jz_tree.specs.declared.expr.Expr.{size-Expr}
use Rattle.jz_tree.specs.declared.expr.Expr.TheVariants.{Not}
use Rattle.jz_tree.specs.declared.expr.Expr.TheViews.{sized-Not}
use Rattle.jz_limits.specs.Asked.{size_compared}
use Rattle.jz_limits.proofs.Compared.{compared_not}
use Rattle.jz_limits.proofs.operands.size_compared.Goals as goal

pub loop-rest-preserved : goal.loop-rest-preserved
loop-rest-preserved c =
    let whole : Not c.get-rest.result.now c.in-Not.field-1 ≡ c.loop-rest.rest.now = rw (c.get-rest.ensures) (sym c.in-Not.is) in (
      sym (compared_not c.get-rest.result.now c.in-Not.field-1) ∙ (ap size_compared whole ∙ c.loop-rest.invariant.0),
      omega (arith, sized-Not c.get-rest.result.now c.in-Not.field-1, ap size-Expr whole, c.loop-rest.invariant.1),
    )
