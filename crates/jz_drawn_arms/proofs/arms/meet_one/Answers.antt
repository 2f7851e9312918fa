use Rattle.jz_layers.specs.Spots.{spot_of}
use Rattle.jz_drawn_arms.proofs.MeetingLabels.{cell_for}
use Rattle.jz_drawn_arms.proofs.arms.meet_one.Goals as goal

pub returns-in-Some : goal.returns-in-Some
returns-in-Some c = cell_for c.args.first.now c.args.second.now c.args.start (spot_of c.args.named) c.args.drawing.now c.requires _ c.in-Some.is
