use Rattle.std.proofs.Common.{◌∙◌, sym, ap, not, []}
use Rattle.std.specs.List.{filter, range_with_len}
use Rattle.jz_ir.specs.Places.{has_need}
use Rattle.jz_alloc.proofs.Orders.{with_one, without_it}
use Rattle.jz_alloc.proofs.order.place_order.Goals as goal
use Rattle.jz_alloc.proofs.order.place_order.Goals.{then-contains+in_ok-push, else-contains, then-not-contains+in_ok-push-2, else-not-contains}

pub loop-variable-preserved : goal.loop-variable-preserved
loop-variable-preserved c =
    let e = sym (c.in_ok-needy.ensures c.loop-variable.variable) ∙ sym c.contains.ensures in
    elim c.if-contains.branch [
      | then-contains+in_ok-push w ↦ with_one (has_need c.args.ops.now) c.loop-variable.variable [] c.loop-variable.order.items _ (e ∙ w.if-contains.true) c.loop-variable.invariant (ap (λ x. x.items) w.order-is ∙ w.in_ok-push.ensures.items)
      | else-contains w ↦ without_it (has_need c.args.ops.now) c.loop-variable.variable [] c.loop-variable.order.items _ (e ∙ w.if-contains.false) c.loop-variable.invariant (ap (λ x. x.items) w.order-is)
    ]

pub loop-variable-2-preserved : goal.loop-variable-2-preserved
loop-variable-2-preserved c =
    let e = ap not (sym (c.in_ok-needy.ensures c.loop-variable-2.variable) ∙ sym c.contains-in-loop-variable-2.ensures) in
    elim c.if-not-contains.branch [
      | then-not-contains+in_ok-push-2 w ↦ with_one (λ v. not (has_need c.args.ops.now v)) c.loop-variable-2.variable (filter (has_need c.args.ops.now) (range_with_len 0 c.args.count)) c.loop-variable-2.order.items _ (e ∙ ap not w.if-not-contains.true) c.loop-variable-2.invariant (ap (λ x. x.items) w.order-is ∙ w.in_ok-push-2.ensures.items)
      | else-not-contains w ↦ without_it (λ v. not (has_need c.args.ops.now v)) c.loop-variable-2.variable (filter (has_need c.args.ops.now) (range_with_len 0 c.args.count)) c.loop-variable-2.order.items _ (e ∙ ap not w.if-not-contains.false) c.loop-variable-2.invariant (ap (λ x. x.items) w.order-is)
    ]
