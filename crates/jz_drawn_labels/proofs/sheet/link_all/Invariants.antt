use Rattle.std.proofs.Common.{◌≡◌, ◌++◌, take}
use Rattle.jz_required.specs.Kept.{origins_of}
use Rattle.jz_secrets.specs.Graphs.{arrows_of}
use Rattle.jz_drawing.specs.Drawings.{arrows_from}
use Rattle.jz_drawn_labels.specs.Kept.{nodes_of}
use Rattle.jz_drawn_labels.proofs.sheet.link_all.Given as goal

abbrev pub invariant-loop-part : goal.invariant-loop-part
invariant-loop-part l =
    arrows_of l.edges.items ≡ arrows_of l.fn.edges.items ++ arrows_from (nodes_of l.table) (origins_of (take l.part-index l.parts)) l.to
