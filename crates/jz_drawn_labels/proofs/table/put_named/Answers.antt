use Rattle.std.proofs.Common.{ap, ◌∙◌}
use Rattle.jz_layers.specs.Spots.{spot_of}
use Rattle.jz_layers.specs.Layered.{seen}
use Rattle.jz_drawn_labels.specs.Kept.{nodes_by}
use Rattle.jz_drawn_labels.proofs.Tables.{node_put}
use Rattle.jz_drawn_labels.proofs.table.put_named.Goals as goal

pub returns-clause-nodes : goal.returns-clause-nodes
returns-clause-nodes c =
    let t = c.args.table.now in
    ap (nodes_by t.floor) c.in_ok-put.ensures.put ∙ node_put t.floor (seen t.layers) (spot_of c.args.named) c.args.node c.requires.scalar c.requires.floor
