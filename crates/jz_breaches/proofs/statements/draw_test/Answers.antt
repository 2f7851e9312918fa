use Rattle.std.proofs.Common.{map, ◌++◌, ap, ◌∙◌, refl}
use Rattle.jz_drawing.specs.Drawings.{asks_in}
use Rattle.jz_drawn_labels.specs.Kept.{asked_of, nodes_of}
use Rattle.jz_drawn_labels.proofs.Lefts.{same_view}
use Rattle.jz_breaches.proofs.statements.draw_test.Goals as goal

pub returns-clause-view : goal.returns-clause-view
returns-clause-view c =
    let d = c.args.drawing.now in
    same_view _ _ refl refl (c.in_ok-ask_all.ensures ∙ ap (λ ds. map asked_of d.sheet.asked.items ++ asks_in (nodes_of d.table) ds) c.in_ok-required.ensures)
