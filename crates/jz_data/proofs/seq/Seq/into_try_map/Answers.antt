use Rattle.std.proofs.Common.{rules, subst, sym, ◌≡◌, ◌++◌, ◌∷◌, List, [], length, Result, Ok, refl, arith}
use Rattle.std.specs.Fn.{FnReturns}
use Rattle.std.proofs.lemmas.Fn.{says}
use Rattle.jz_data.specs.Maps.{Maps}
use Rattle.jz_data.proofs.Maps.{next_one, AllZip-image, no_more}
use Rattle.jz_data.proofs.seq.Seq.into_try_map.Goals as goal

pub loop-item-preserved : goal.loop-item-preserved
loop-item-preserved g c =
    let R = λ (x : g.row.T.Denot) (r : Result g.row.U.Denot g.row.E.Denot). FnReturns g.F.Fn c.args.f (x, tt) r in
    let at = c.loop-item in
    let whole : at.yielded ++ c.in-Some.item ∷ c.next.new.self.rest.items ≡ c.args.self = search rules in
    subst (λ (ys : List g.row.U.Denot). Maps R (at.yielded ++ c.in-Some.item ∷ []) ys × (at.yielded ++ c.in-Some.item ∷ [] ++ c.next.new.self.rest.items ≡ c.args.self)) (sym c.in_ok-push.ensures.ok)
    (next_one R at.yielded c.next.new.self.rest.items c.args.self c.in-Some.item at.out c.in_ok-made.made whole at.invariant.0 (says g.F.Fn c.in_ok-made.ensures refl))

pub returns-clause-image : goal.returns-clause-image
returns-clause-image g c = λ h same.
    let R = λ (x : g.row.T.Denot) (r : Result g.row.U.Denot g.row.E.Denot). FnReturns g.F.Fn c.args.f (x, tt) r in
    let at = c.loop-item in
    let none : length at.item-iterator.rest.items ≡ 0 = omega (arith, at.item-iterator.rest.ok, c.in-None.ensures.steps.0) in
    AllZip-image (λ x y. R x (Ok y)) h same c.args.self at.out
    (subst (λ (xs : List g.row.T.Denot). Maps R xs at.out) (no_more at.yielded at.item-iterator.rest.items c.args.self at.invariant.1 none) at.invariant.0)
