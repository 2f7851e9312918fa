use Rattle.std.proofs.Common.{◌≡◌, ◌∙◌, ap, sym, arith}
use Rattle.jz_tree.specs.declared.expr.Expr.{size-Expr}
use Rattle.jz_tree.specs.declared.expr.Expr.TheVariants.{Bin}
use Rattle.jz_resolve.specs.Resolving.{resolved_expr}
use Rattle.jz_tree.specs.LeftSides.{on_left}
use Rattle.jz_tree.proofs.Sides.{last_step, left_smaller}
use Rattle.jz_resolve.proofs.Layers.{bin_resolved}
use Rattle.jz_resolve.proofs.expressions.+resolve.Goals as goal

pub resolve_side-loop-rest-preserved : goal.resolve_side-loop-rest-preserved
resolve_side-loop-rest-preserved g t c =
    let d = (g.L.Lookup.known c.args.names.now).declaration in
    let n = (g.L.Lookup.known c.args.names.now).number in
    let whole : Bin c.in-Bin.op c.get-rest.result.now c.get.result.now c.in-Bin.span ≡ c.loop-rest.rest.now =
    rw (c.get-rest.ensures, c.get.ensures) (sym c.in-Bin.is) in (
      ap (λ steps. on_left steps (resolved_expr d n c.get-rest.result.now)) c.in_ok-push.ensures.items
          ∙ last_step _ _ _
          ∙ ap (λ r. on_left c.loop-rest.steps.items (Bin c.in-Bin.op (resolved_expr d n c.get-rest.result.now) r c.in-Bin.span)) c.in_ok-resolve_expr.ensures
          ∙ ap (on_left c.loop-rest.steps.items) (sym (bin_resolved d n c.in-Bin.op c.get-rest.result.now c.get.result.now c.in-Bin.span) ∙ ap (resolved_expr d n) whole)
          ∙ c.loop-rest.invariant.0,
      omega (arith, left_smaller c.in-Bin.op c.get-rest.result.now c.get.result.now c.in-Bin.span, ap size-Expr whole, c.loop-rest.invariant.1),
    )
