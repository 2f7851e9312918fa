use Rattle.std.proofs.Common.{◌≤◌, length, sym, arith}
use Rattle.jz_drawn_arms.proofs.MeetingLabels.{layer_begun, layer_next, layer_all}
use Rattle.jz_drawn_arms.proofs.arms.meet_layer.Goals as goal

pub loop-i-init : goal.loop-i-init
loop-i-init c = layer_begun c.args.first.now c.args.second.now c.args.start c.args.layer.now c.args.drawing.now c.requires

pub meet_one-requires : goal.meet_one-requires
meet_one-requires c = c.loop-i.invariant.low

pub loop-i-preserved : goal.loop-i-preserved
loop-i-preserved c =
    let e = c.in-Some.entry in
    layer_next c.args.first.now c.args.second.now c.args.start c.args.layer.now c.args.drawing.now c.loop-i.drawing c.meet_one.new.drawing c.loop-i.i e.0.now e.1.now (sym c.in-Some.ensures.entry) c.loop-i.invariant c.in_ok-meet_one-in-Some.ensures

pub returns : goal.returns
returns c =
    let l : length c.args.layer.now.entries ≤ c.loop-i.i = omega (arith, c.loop-i-test.false, c.len-count.ensures.len) in
    layer_all c.args.first.now c.args.second.now c.args.start c.args.layer.now c.args.drawing.now c.loop-i.drawing c.loop-i.i l c.loop-i.invariant.low c.loop-i.invariant
