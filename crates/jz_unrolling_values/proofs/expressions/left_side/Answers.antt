use Rattle.std.proofs.Common.{◌≡◌, ◌∙◌, ap, sym}
use Rattle.jz_tree.specs.declared.expr.Expr.TheVariants.{Bin}
use Rattle.jz_unrolling_values.specs.Parts.{on_left}
use Rattle.jz_unrolling_values.proofs.PartLemmas.{last_waiting}
use Rattle.jz_unrolling_values.proofs.expressions.left_side.Goals as goal

pub loop-first-preserved : goal.loop-first-preserved
loop-first-preserved c =
    let whole : Bin c.in-Bin.op c.get-first.result.now c.get.result.now c.in-Bin.span ≡ c.loop-first.first.now =
    rw (c.get-first.ensures, c.get.ensures) (sym c.in-Bin.is) in
    ap (λ ws. on_left ws c.get-first.result.now) c.in_ok-push.ensures.items
    ∙ last_waiting _ _ _
    ∙ ap (on_left c.loop-first.waiting.items) whole
    ∙ c.loop-first.invariant
