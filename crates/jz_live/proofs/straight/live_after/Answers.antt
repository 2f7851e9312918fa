use Rattle.std.proofs.Common.{◌∙◌, sym, ap, subst, arith, ◌-◌, get_or, [], ◌∷◌, ◌++◌, IsTrue, ◌↔◌}
use Rattle.std.proofs.lemmas.List.Elements.{All-get_or}
use Rattle.jz_bits.specs.Has.{has}
use Rattle.jz_ir.specs.Straight.{LiveIn}
use Rattle.jz_ir.specs.Places.{Below}
use Rattle.jz_live.proofs.Backward.{Backwards, one_back, below_wide, exact_rows}
use Rattle.jz_live.proofs.straight.live_after.Goals as goal

pub step_back-requires : goal.step_back-requires
step_back-requires c =
    below_wide c.args.count _ _ (omega (arith, c.loop-i.invariant.wide))
    (subst (Below c.args.count) (sym c.index-ops-i.is) (All-get_or (Below c.args.count) c.args.ops.now (c.loop-i.i - 1) c.index-ops-i.result (omega arith) c.requires))

pub loop-i-preserved : goal.loop-i-preserved
loop-i-preserved c =
    subst (λ x. Backwards c.args.ops.now c.args.count x c.step_back.new.live (c.loop-i.i - 1)) (ap (λ x. c.loop-i.rows.items ++ x ∷ []) (sym c.in_ok-copy.ensures) ∙ sym c.in_ok-push.ensures.items)
    (one_back _ _ _ _ _ c.loop-i.i _ c.index-ops-i.result c.loop-i.invariant (omega arith) (omega arith) c.index-ops-i.is c.step_back.ensures.wide c.step_back.ensures.set)

pub returns-clause-exact : goal.returns-clause-exact
returns-clause-exact c = λ i lt v. subst (λ x. IsTrue (has (get_or x i []) v) ↔ LiveIn c.args.ops.now i v) (sym c.reverse.ensures.items) (exact_rows _ c.args.count _ c.loop-i.live (subst (Backwards c.args.ops.now c.args.count c.loop-i.rows.items c.loop-i.live) (omega arith) c.loop-i.invariant) i lt v)
