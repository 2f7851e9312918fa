use Rattle.std.proofs.Common.{rules}
use Rattle.jz_secrets.specs.Graphs.{arrows_of}
use Rattle.jz_drawn_labels.specs.Kept.{nodes_of}
use Rattle.jz_drawn_heads.proofs.Splitting.{back_next, back_done}
use Rattle.jz_drawn_heads.proofs.heads.come_back.Goals as goal

pub loop-head-preserved : goal.loop-head-preserved
loop-head-preserved c =
    back_next (nodes_of c.args.table.now) c.args.heads.now c.loop-head.head-index c.head-item.result c.node.result (arrows_of c.args.edges.now.items) (arrows_of c.loop-head.edges.items) (arrows_of c.link.new.edges.items) (search rules) (search rules)
    c.node.ensures c.in_ok-link.ensures c.loop-head.invariant

pub returns : goal.returns
returns c =
    back_done (nodes_of c.args.table.now) c.args.heads.now c.loop-head.head-index (arrows_of c.args.edges.now.items) (arrows_of c.loop-head.edges.items) (search rules) c.loop-head.invariant
