use Rattle.std.proofs.Common.{◌≡◌, ◌+◌, ◌*◌, ◌<◌, ◌≤◌, ap, sym, ◌∙◌, subst, arith}
use Rattle.jz_tree.specs.declared.expr.Expr.{size-Expr}
use Rattle.jz_tree.specs.declared.expr.Expr.TheVariants.{Cell}
use Rattle.jz_runs.specs.Rules.{stuck}
use Rattle.jz_meaning.specs.Attempts.{seen, numbers_first}
use Rattle.jz_meaning.specs.States.{as_value}
use Rattle.jz_meaning.specs.Stores.{state_of}
use Rattle.jz_meaning.specs.Values.{ref_of, cell_value, evaluated}
use Rattle.jz_meaning.specs.InnerEvaluating.{AllDetermined, go_on}
use Rattle.jz_meaning.proofs.AttemptLemmas.{handed_on}
use Rattle.jz_meaning.proofs.LeftSideLemmas.{AllSmaller, parts_within, smaller_without_last, without_last, stuck_first, begun, next, next_stuck, cell_goes, load_goes}
use Rattle.jz_meaning.proofs.evaluating.+evaluation.Goals as goal

pub evaluate_settled-evaluate_single-requires : goal.evaluate_settled-evaluate_single-requires
evaluate_settled-evaluate_single-requires t c =
    let side = c.in_ok-waiting.field-0 in
    let parts = c.in_ok-waiting.ensures.parts in
    let x : size-Expr side.first.now ≤ size-Expr c.args.e.now = subst (λ e. size-Expr side.first.now ≤ size-Expr e) parts.whole (parts_within side.waiting.items side.first.now).0 in
    let below : 3 * size-Expr side.first.now < t = omega (arith, x, c.decreases) in
    (below, (parts.settled, c.in_ok-waiting.ensures.single))

pub evaluate_settled-loop-operation-init : goal.evaluate_settled-loop-operation-init
evaluate_settled-loop-operation-init t c =
    let side = c.in_ok-waiting.field-0 in
    let parts = c.in_ok-waiting.ensures.parts in (
      begun c.args.out.now c.evaluate_single.new.out (state_of c.args.state.now) c.args.e.now side.first.now c.args.wanted side.wanted side.waiting.items (as_value c.in_ok-value.value) parts
          c.in_ok-value.ensures,
      subst (λ e. AllSmaller (size-Expr e) side.waiting.items) parts.whole (parts_within side.waiting.items side.first.now).1,
      parts.rights,
    )

pub evaluate_settled-finish-requires : goal.evaluate_settled-finish-requires
evaluate_settled-finish-requires t c =
    let w = c.in-Some.operation in
    let us = c.pop.new.self.items in
    let n = size-Expr c.args.e.now in
    let x : size-Expr w.right.now < n = (smaller_without_last n us w (subst (AllSmaller n) c.in-Some.ensures.items c.loop-operation.invariant.1)).1 in
    let below : 3 * size-Expr w.right.now + 2 < t = omega (arith, x, c.decreases) in
    (below, (without_last us w (subst AllDetermined c.in-Some.ensures.items c.loop-operation.invariant.2)).1)

pub evaluate_settled-loop-operation-preserved : goal.evaluate_settled-loop-operation-preserved
evaluate_settled-loop-operation-preserved t c =
    let w = c.in-Some.operation in
    let us = c.pop.new.self.items in
    let n = size-Expr c.args.e.now in (
      next (state_of c.args.state.now) c.loop-operation.out (as_value c.loop-operation.value) c.loop-operation.waiting.items us w _ _ c.in-Some.ensures.items c.loop-operation.invariant.0
          c.in_ok-value-2.ensures,
      (smaller_without_last n us w (subst (AllSmaller n) c.in-Some.ensures.items c.loop-operation.invariant.1)).0,
      (without_last us w (subst AllDetermined c.in-Some.ensures.items c.loop-operation.invariant.2)).0,
    )

pub evaluate_single-returns-in_ok-value-in-Cell : goal.evaluate_single-returns-in_ok-value-in-Cell
evaluate_single-returns-in_ok-value-in-Cell t c =
    let whole : Cell c.in-Cell.var c.get.result.now ≡ c.args.e.now = rw c.get.ensures (sym c.in-Cell.is) in
    cell_goes (state_of c.args.state.now) c.args.out.now c.evaluate_settled.new.out c.args.e.now c.get.result.now c.in-Cell.var c.args.wanted (as_value c.in_ok-index-in-Cell.index) _ whole
    c.in_ok-index-in-Cell.ensures c.in_ok-value-in-Cell.ensures

pub evaluate_single-returns-in_ok-value-in-Load : goal.evaluate_single-returns-in_ok-value-in-Load
evaluate_single-returns-in_ok-value-in-Load t c =
    load_goes (state_of c.args.state.now) c.args.out.now c.evaluate_settled-in-Load.new.out c.args.e.now c.get-in-Load.result.now c.in-Load.access c.args.wanted (as_value c.in_ok-address-in-Load.address) _ (sym c.in-Load.is) c.get-in-Load.ensures
    c.in_ok-address-in-Load.ensures c.in_ok-value-in-Load.ensures

pub evaluate_settled-returns-in_err-value : goal.evaluate_settled-returns-in_err-value
evaluate_settled-returns-in_err-value t c =
    let side = c.in_ok-waiting.field-0 in
    let ns = c.args.out.now in
    let s = state_of c.args.state.now in
    handed_on c.from_residual-in_err-value.result c.in_err-value.field-0.0 (λ r. seen c.evaluate_single.new.out r ≡ numbers_first ns (evaluated side.first.now side.wanted s))
    (λ r. seen c.evaluate_single.new.out r ≡ numbers_first ns (evaluated c.args.e.now c.args.wanted s)) c.from_residual-in_err-value.ensures.1 c.in_err-value.ensures
    (λ k h. stuck_first ns s c.args.e.now side.first.now c.args.wanted side.wanted side.waiting.items k c.in_ok-waiting.ensures.parts h)

pub evaluate_settled-returns-in_err-value-2 : goal.evaluate_settled-returns-in_err-value-2
evaluate_settled-returns-in_err-value-2 t c =
    let s = state_of c.args.state.now in
    let out = c.loop-operation.out in
    let v = as_value c.loop-operation.value in
    let whole = numbers_first c.args.out.now (evaluated c.args.e.now c.args.wanted s) in
    handed_on c.from_residual-in_err-value-2.result c.in_err-value-2.field-0.0 (λ r. seen c.finish.new.out r ≡ numbers_first out (go_on c.in-Some.operation s v))
    (λ r. seen c.finish.new.out r ≡ whole) c.from_residual-in_err-value-2.ensures.1 c.in_err-value-2.ensures
    (λ k h. next_stuck s out v c.loop-operation.waiting.items c.pop.new.self.items c.in-Some.operation k whole c.in-Some.ensures.items c.loop-operation.invariant.0 h)

pub evaluate_single-returns-in_err-value-in-Cell : goal.evaluate_single-returns-in_err-value-in-Cell
evaluate_single-returns-in_err-value-in-Cell t c =
    let s = state_of c.args.state.now in
    let ns = c.args.out.now in
    let ms = c.evaluate_settled.new.out in
    let x = c.in-Cell.var in
    let v = as_value c.in_ok-index-in-Cell.index in
    let whole : Cell x c.get.result.now ≡ c.args.e.now = rw c.get.ensures (sym c.in-Cell.is) in
    handed_on c.from_residual-in_err-value-in-Cell.result c.in_err-value-in-Cell.field-0.0 (λ r. seen c.cell.new.out r ≡ numbers_first ms (cell_value (ref_of x) v s.store))
    (λ r. seen c.cell.new.out r ≡ numbers_first ns (evaluated c.args.e.now c.args.wanted s)) c.from_residual-in_err-value-in-Cell.ensures.1 c.in_err-value-in-Cell.ensures
    (λ k h. cell_goes s ns ms c.args.e.now c.get.result.now x c.args.wanted v (stuck k) whole c.in_ok-index-in-Cell.ensures h)
