use Rattle.std.proofs.Common.{◌∙◌, ap, arith, ◌<◌, ◌||◌, length, get_or, [], nat_eq}
use Rattle.jz_bits.specs.Has.{has}
use Rattle.jz_alloc.specs.Tables.{row_has}
use Rattle.jz_alloc.proofs.Fitting.{put, left_over, ended, to_call, from_call}
use Rattle.jz_alloc.proofs.Bounds.{wide_at}
use Rattle.std.proofs.lemmas.List.{get_or_default}
use Rattle.jz_alloc.proofs.fit.place_all.Goals as goal

pub returns-in-None : goal.returns-in-None
returns-in-None c =
    let lt : c.loop-variable.variable-index < length c.args.order.now = c.loop-variable-test.true in
    let vl : get_or c.args.order.now c.loop-variable.variable-index 0 < length c.args.rows.now = c.requires.order c.loop-variable.variable-index 0 lt in
    left_over _ _ _ _ _ _ _ _ c.loop-variable.invariant _ lt (get_or_default _ _ _ _ lt)
    (λ q ql o. c.in-None.ensures q ql (to_call _ _ _ _ _ c.args.rows.now _ c.index-rows-index.result c.as_slice.ensures.value c.as_slice-in-loop-variable.ensures.value c.index-rows-index.is vl q o))

pub loop-variable-preserved : goal.loop-variable-preserved
loop-variable-preserved c =
    let lt : c.loop-variable.variable-index < length c.args.order.now = c.loop-variable-test.true in
    let vl : get_or c.args.order.now c.loop-variable.variable-index 0 < length c.args.rows.now = c.requires.order c.loop-variable.variable-index 0 lt in
    let e = c.in-Some.ensures in
    put _ _ _ _ _ _ _ _ c.loop-variable.invariant _ _ _ _ lt c.requires.distinct (get_or_default _ _ _ _ lt) vl e.0
    (from_call _ _ _ _ _ c.args.rows.now _ c.index-rows-index.result c.as_slice.ensures.value c.as_slice-in-loop-variable.ensures.value c.index-rows-index.is vl _ e.1)
    (λ x xl o. e.2 x xl (to_call _ _ _ _ _ c.args.rows.now _ c.index-rows-index.result c.as_slice.ensures.value c.as_slice-in-loop-variable.ensures.value c.index-rows-index.is vl x o))
    (c.union.ensures.wide ∙ wide_at c.loop-variable.busy.items _ c.in-Some.place c.index_mut-in-Some.result.now c.loop-variable.invariant.busy_wide (omega (arith, e.0, c.loop-variable.invariant.busy_len)) c.index_mut-in-Some.ensures.value)
    (c.insert.ensures.wide ∙ wide_at c.loop-variable.holders.items _ c.in-Some.place c.index_mut-in-Some-2.result.now c.loop-variable.invariant.holders_wide (omega (arith, e.0, c.loop-variable.invariant.holders_len)) c.index_mut-in-Some-2.ensures.value)
    (λ w. c.union.ensures.set w
    ∙ ap (λ x. has x w || has c.index-rows-index-in-Some.result w) (c.index_mut-in-Some.ensures.value ∙ get_or_default c.loop-variable.busy.items c.in-Some.place c.index_mut-in-Some.result.now [] (omega (arith, e.0, c.loop-variable.invariant.busy_len)))
    ∙ ap (λ x. row_has c.loop-variable.busy.items c.in-Some.place w || has x w) (c.index-rows-index-in-Some.is ∙ get_or_default c.args.rows.now _ c.index-rows-index-in-Some.result [] vl))
    (λ w. c.insert.ensures.set w ∙ ap (λ x. nat_eq w (get_or c.args.order.now c.loop-variable.variable-index 0) || has x w) (c.index_mut-in-Some-2.ensures.value ∙ get_or_default c.loop-variable.holders.items c.in-Some.place c.index_mut-in-Some-2.result.now [] (omega (arith, e.0, c.loop-variable.invariant.holders_len))))

pub returns : goal.returns
returns c = ended _ _ _ _ _ _ _ _ c.loop-variable.invariant (omega arith)
