use Rattle.std.proofs.Common.{◌-◌}
use Rattle.jz_layers.proofs.Covering.{covers}
use Rattle.jz_drawn_labels.specs.Kept.{whole}
use Rattle.jz_drawn_arms.specs.Meetings.{MeetsFor}
use Rattle.jz_drawn_arms.proofs.arms.meet_layer.Given as goal

abbrev pub invariant-loop-i : goal.invariant-loop-i
invariant-loop-i l = MeetsFor l.first l.second l.start (λ k. covers l.layer.entries l.i (whole k)) l.fn.drawing l.drawing

abbrev pub decreases-loop-i : goal.decreases-loop-i
decreases-loop-i l = l.count - l.i
