use Rattle.std.proofs.Common.{ap, ◌∙◌}
use Rattle.jz_layers.specs.Spots.{Spot}
use Rattle.jz_drawing.specs.Drawings.{put_node}
use Rattle.jz_drawn_labels.specs.Kept.{nodes_of}
use Rattle.jz_drawn_labels.proofs.table.put.Goals as goal

pub put_named-requires-clause-scalar : goal.put_named-requires-clause-scalar
put_named-requires-clause-scalar c = ap (λ (s : Spot). s.index) c.of.ensures

pub returns-clause-nodes : goal.returns-clause-nodes
returns-clause-nodes c = c.in_ok-put_named.ensures.nodes ∙ ap (λ (s : Spot). put_node s.of c.args.node (nodes_of c.args.table.now)) c.of.ensures
