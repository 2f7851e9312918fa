use Rattle.std.proofs.Common.{◌∙◌, ap, length, get_or, arith, rules}
use Rattle.jz_inputs.specs.Held.{IsHeld}
use Rattle.jz_inputs.proofs.Taken.{all_more, all_seen}
use Rattle.jz_inputs.proofs.holding.first_unmet.Goals as goal

pub loop-place-preserved : goal.loop-place-preserved
loop-place-preserved c =
    let same = c.as_slice-pre-items.ensures in
    let pre = c.pre-item.result in
    all_more (IsHeld c.args.fun.now c.args.words.now c.args.items.now) c.args.pres.now c.loop-place.place pre (omega (arith, ap length same))
    (c.pre-item.is ∙ ap (λ xs. get_or xs c.loop-place.place pre) same) c.loop-place.invariant
    (c.is_held.ensures.0 c.if-not-is_held.false)

pub returns : goal.returns
returns c =
    all_seen (IsHeld c.args.fun.now c.args.words.now c.args.items.now) c.args.pres.now c.loop-place.place (search rules) c.loop-place.invariant
