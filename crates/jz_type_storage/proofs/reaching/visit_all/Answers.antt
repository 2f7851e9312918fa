use Rattle.std.proofs.Common.{arith, refl, sym, subst, ◌<◌, length, take, get_or}
use Rattle.std.proofs.lemmas.List.{take_more}
use Rattle.jz_type_storage.specs.InnerNumbers.{VisitsAll}
use Rattle.jz_type_storage.proofs.Spread.{visits_more}
use Rattle.jz_type_storage.proofs.reaching.visit_all.Goals as goal

pub visit-requires-clause-within : goal.visit-requires-clause-within
visit-requires-clause-within c =
    let lt : c.loop-at.at-index < length c.args.all.now = omega arith in
    let h = c.requires.within (get_or c.args.all.now c.loop-at.at-index 0) (c.loop-at.at-index, lt, refl) in
    omega (arith, h, c.loop-at.invariant.same)

pub loop-at-preserved : goal.loop-at-preserved
loop-at-preserved c =
    let lt : c.loop-at.at-index < length c.args.all.now = omega arith in
    subst (VisitsAll c.args.found.now.marks.items c.args.found.now.order.items c.visit.new.found.marks.items c.visit.new.found.order.items)
    (sym (take_more c.args.all.now c.loop-at.at-index 0 lt))
    (visits_more _ _ c.loop-at.found.marks.items c.loop-at.found.order.items _ _ (take c.loop-at.at-index c.args.all.now) (get_or c.args.all.now c.loop-at.at-index 0) c.loop-at.invariant c.in_ok-visit.ensures)
