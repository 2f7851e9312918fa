use Rattle.std.proofs.Common.{◌∙◌, ◌++◌, ap, refl, map}
use Rattle.jz_labels.specs.Operations.{left_of}
use Rattle.jz_drawing.specs.Drawings.{asks_in}
use Rattle.jz_drawn_labels.specs.Kept.{asked_of, nodes_of, view_of}
use Rattle.jz_drawn_labels.proofs.Lefts.{left_is_drawn}
use Rattle.jz_drawn_labels.proofs.operating.draw_left.Goals as goal

pub returns-clause-view : goal.returns-clause-view
returns-clause-view c =
    let d = c.args.drawing.now in
    left_is_drawn c.args.node (left_of c.args.left.now) (view_of d) _ _ c.in_ok-write.ensures.view refl refl
    (c.in_ok-ask_all.ensures ∙ ap (λ ds. map asked_of d.sheet.asked.items ++ asks_in (nodes_of d.table) ds) c.in_ok-required.ensures)
