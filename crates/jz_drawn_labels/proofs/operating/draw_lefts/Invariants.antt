use Rattle.std.proofs.Common.{◌≡◌, take, map}
use Rattle.jz_labels.specs.Operations.{left_of}
use Rattle.jz_drawn_labels.specs.Kept.{view_of}
use Rattle.jz_drawn_labels.specs.InnerLefts.{lefts_drawn}
use Rattle.jz_drawn_labels.proofs.operating.draw_lefts.Given as goal

abbrev pub invariant-loop-left : goal.invariant-loop-left
invariant-loop-left l =
    (l.drawing.table.floor ≡ l.fn.drawing.table.floor)
    × (l.drawing.table.layers.below.items ≡ l.fn.drawing.table.layers.below.items)
    × (view_of l.drawing ≡ lefts_drawn l.node (map left_of (take l.left-index l.to)) (view_of l.fn.drawing))
