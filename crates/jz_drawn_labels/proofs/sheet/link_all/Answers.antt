use Rattle.std.proofs.Common.{rules}
use Rattle.jz_secrets.specs.Graphs.{vertex_of, arrows_of}
use Rattle.jz_drawn_labels.specs.Kept.{nodes_of}
use Rattle.jz_drawn_labels.proofs.Sheets.{linked_next, linked_all}
use Rattle.jz_drawn_labels.proofs.sheet.link_all.Goals as goal

pub loop-part-preserved : goal.loop-part-preserved
loop-part-preserved c =
    linked_next (nodes_of c.args.table.now) c.args.to c.args.parts.now c.loop-part.part-index c.part-item.result (vertex_of c.of_part.result) (arrows_of c.args.edges.now.items) (arrows_of c.loop-part.edges.items) (arrows_of c.link.new.edges.items)
    (search rules) (search rules) c.of_part.ensures c.in_ok-link.ensures c.loop-part.invariant

pub returns : goal.returns
returns c =
    linked_all (nodes_of c.args.table.now) c.args.to c.args.parts.now c.loop-part.part-index (arrows_of c.args.edges.now.items) (arrows_of c.loop-part.edges.items) (search rules) c.loop-part.invariant
