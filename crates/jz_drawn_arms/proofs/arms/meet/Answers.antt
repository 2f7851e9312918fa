use Rattle.jz_drawn_labels.proofs.Operated.{next_of}
use Rattle.jz_drawn_arms.proofs.BehindArms.{raised_low, are_met}
use Rattle.jz_drawn_arms.proofs.arms.meet.Goals as goal

pub meet_layer-requires : goal.meet_layer-requires
meet_layer-requires c =
    raised_low c.args.first.now c.args.second.now c.args.drawing.now c.requires.drawn c.requires.first c.requires.second c.next-start.result c.met_floor-drawing.result (next_of c.args.drawing.now c.next-start.result c.next-start.ensures) c.met_floor-drawing.ensures

pub meet_layer-requires-2 : goal.meet_layer-requires-2
meet_layer-requires-2 c = c.in_ok-meet_layer.ensures.low

pub returns : goal.returns
returns c =
    are_met c.args.first.now c.args.second.now c.args.drawing.now c.requires.drawn c.requires.first c.requires.second c.next-start.result c.met_floor-drawing.result (next_of c.args.drawing.now c.next-start.result c.next-start.ensures) c.met_floor-drawing.ensures c.meet_layer.new.drawing c.meet_layer-2.new.drawing
    c.in_ok-meet_layer.ensures c.in_ok-meet_layer-2.ensures
