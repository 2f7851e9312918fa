use Rattle.std.proofs.Common.{rules, subst, sym, Ok, refl}
use Rattle.std.specs.Fn.{FnReturnsAt}
use Rattle.std.proofs.lemmas.Fn.{says_at}
use Rattle.std.proofs.lemmas.List.{take_all}
use Rattle.jz_data.specs.Maps.{Maps}
use Rattle.jz_data.proofs.Maps.{one_more, failed, AllZip-image}
use Rattle.jz_data.proofs.mapping.try_map_slice.Goals as goal

pub returns-in_err-made-clause-err : goal.returns-in_err-made-clause-err
returns-in_err-made-clause-err g c =
    let R = FnReturnsAt g.F.Fn c.args.f in
    let items = c.args.items.now in
    let at = c.loop-item in
    let fails = failed R items at.item-index at.out c.item-item.result c.in_err-made.field-0.0 c.loop-item-test.true c.item-item.is at.invariant (says_at g.F.Fn c.in_err-made.ensures refl) in
    search (rules, fails)

pub loop-item-preserved : goal.loop-item-preserved
loop-item-preserved g c =
    let R = FnReturnsAt g.F.Fn c.args.f in
    let items = c.args.items.now in
    let at = c.loop-item in
    subst (Maps R _) (sym c.in_ok-push.ensures.ok)
    (one_more R items at.item-index at.out c.item-item.result c.in_ok-made.made c.loop-item-test.true c.item-item.is at.invariant (says_at g.F.Fn c.in_ok-made.ensures refl))

pub returns-clause-image : goal.returns-clause-image
returns-clause-image g c = λ h same.
    let R = FnReturnsAt g.F.Fn c.args.f in
    AllZip-image (λ x y. R x (Ok y)) h same c.args.items.now c.loop-item.out
    (subst (λ xs. Maps R xs c.loop-item.out) (take_all _ _ c.loop-item-test.false) c.loop-item.invariant)
