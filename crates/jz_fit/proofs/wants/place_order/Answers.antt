use Rattle.std.proofs.Common.{◌≡◌, ◌∙◌, ◌++◌, ℕ, Bool, not, [], length, sym, ap, subst, arith}
use Rattle.std.specs.List.{filter, range_with_len}
use Rattle.jz_alloc.proofs.Orders.{with_one, without_it}
use Rattle.jz_fit.specs.InnerWants.{is_needed, wanted_at}
use Rattle.jz_fit.proofs.wants.place_order.Goals as goal
use Rattle.jz_fit.proofs.wants.place_order.Goals.{then-is_needed+in_ok-push, else-is_needed, then-not-is_needed+in_ok-push-2, else-not-is_needed}

pub loop-variable-preserved : goal.loop-variable-preserved
loop-variable-preserved c =
    let p : ℕ → Bool = λ v. is_needed (wanted_at c.args.wants.now v) in
    elim c.if-is_needed.branch [
      | then-is_needed+in_ok-push w ↦ with_one p c.loop-variable.variable [] c.loop-variable.order.items _ (sym c.is_needed.ensures ∙ w.if-is_needed.true) c.loop-variable.invariant (ap (λ x. x.items) w.order-is ∙ w.in_ok-push.ensures.items)
      | else-is_needed w ↦ without_it p c.loop-variable.variable [] c.loop-variable.order.items _ (sym c.is_needed.ensures ∙ w.if-is_needed.false) c.loop-variable.invariant (ap (λ x. x.items) w.order-is)
    ]

pub loop-variable-2-preserved : goal.loop-variable-2-preserved
loop-variable-2-preserved c =
    let p : ℕ → Bool = λ v. is_needed (wanted_at c.args.wants.now v) in
    let e = sym c.is_needed-in-loop-variable-2.ensures in
    elim c.if-not-is_needed.branch [
      | then-not-is_needed+in_ok-push-2 w ↦ with_one (λ v. not (p v)) c.loop-variable-2.variable (filter p (range_with_len 0 (length c.args.wants.now))) c.loop-variable-2.order.items _ (ap not (e ∙ w.if-not-is_needed.true)) c.loop-variable-2.invariant (ap (λ x. x.items) w.order-is ∙ w.in_ok-push-2.ensures.items)
      | else-not-is_needed w ↦ without_it (λ v. not (p v)) c.loop-variable-2.variable (filter p (range_with_len 0 (length c.args.wants.now))) c.loop-variable-2.order.items _ (ap not (e ∙ w.if-not-is_needed.false)) c.loop-variable-2.invariant (ap (λ x. x.items) w.order-is)
    ]

pub returns : goal.returns
returns c =
    let p : ℕ → Bool = λ v. is_needed (wanted_at c.args.wants.now v) in
    let e : c.loop-variable-2.variable ≡ length c.args.wants.now = omega (arith, c.loop-variable-2.auto.variable-end, c.loop-variable-2-test.false) in
    subst (λ k. c.loop-variable-2.order.items ≡ filter p (range_with_len 0 (length c.args.wants.now)) ++ filter (λ v. not (p v)) (range_with_len 0 k)) e c.loop-variable-2.invariant
