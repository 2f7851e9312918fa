use Rattle.std.proofs.Common.{ℕ, ◌≤◌, map, refl, sym, subst, arith}
use Rattle.jz_labels.specs.Operations.{left_of}
use Rattle.jz_secrets.specs.Graphs.{arrows_of}
use Rattle.jz_required.specs.Kept.{reading_of}
use Rattle.jz_drawing.specs.Drawings.{next}
use Rattle.jz_drawn_labels.specs.Kept.{view_of}
use Rattle.jz_drawn_labels.proofs.Operated.{operated, longer}
use Rattle.jz_drawn_labels.proofs.operating.operate.Goals as goal

pub draw_lefts-requires : goal.draw_lefts-requires
draw_lefts-requires c = subst (λ (n : ℕ). c.args.drawing.now.table.floor ≤ n) (sym c.in_ok-node.ensures.number) c.requires

pub returns-clause-low : goal.returns-clause-low
returns-clause-low c =
    let l = longer (view_of c.args.drawing.now) _ _ c.in_ok-node.node (reading_of c.args.found.now) (map left_of c.args.to.now) (arrows_of c.fresh.new.edges.items) refl c.in_ok-node.ensures.arrows c.in_ok-link_all.ensures c.in_ok-ask_all.ensures c.in_ok-draw_lefts.ensures.view in
    let f = c.in_ok-draw_lefts.ensures.floor in
    let r : c.args.drawing.now.table.floor ≤ next (view_of c.args.drawing.now) = c.requires in
    omega (arith, l, f, r)

pub returns-clause-view : goal.returns-clause-view
returns-clause-view c = λ o h k.
    operated (view_of c.args.drawing.now) _ _ c.in_ok-node.node (reading_of c.args.found.now) (map left_of c.args.to.now) (arrows_of c.fresh.new.edges.items) refl c.in_ok-node.ensures.arrows c.in_ok-link_all.ensures c.in_ok-ask_all.ensures
    c.in_ok-draw_lefts.ensures.view c.in_ok-node.ensures.number o h k
