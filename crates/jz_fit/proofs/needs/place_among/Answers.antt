use Rattle.std.proofs.Common.{◌≡◌, ◌<◌, ◌+◌, ◌-◌, ◌/◌, ◌∙◌, false, length, get_or, sym, subst, arith}
use Rattle.jz_alloc.specs.Needs.{need_before}
use Rattle.jz_fit.proofs.Searching.{behind}
use Rattle.jz_fit.proofs.needs.place_among.Goals as goal

pub loop-low-preserved-then-is_before : goal.loop-low-preserved-then-is_before
loop-low-preserved-then-is_before c =
    let lt : c.loop-low.low + (c.loop-low.high - c.loop-low.low) / 2 < length c.args.needs.now.items = omega (arith, c.loop-low.invariant.0, c.loop-low.invariant.1, c.loop-low-test.true) in (
      omega (arith, c.loop-low.invariant.0, c.loop-low-test.true),
      c.loop-low.invariant.1,
      behind c.args.need c.args.needs.now.items (c.loop-low.low + (c.loop-low.high - c.loop-low.low) / 2) c.index.result.now c.requires lt c.index.ensures (sym c.is_before.ensures ∙ c.if-is_before.true),
      c.loop-low.invariant.3,
    )

pub returns-clause-found : goal.returns-clause-found
returns-clause-found c = λ l.
    let e : c.loop-low.high ≡ c.loop-low.low = omega (arith, c.loop-low.invariant.0) in
    subst (λ k. need_before (get_or c.args.needs.now.items k c.args.need) c.args.need ≡ false) e (c.loop-low.invariant.3 (omega (arith, l, e)))
