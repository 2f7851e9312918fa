use Rattle.std.proofs.Common.{rules, refl, subst, sym}
use Rattle.jz_secrets.specs.Graphs.{arrow_of, IsBelow}
use Rattle.jz_secrets.proofs.Graphing.{begun, below_at, graph_more, graph_all}
use Rattle.jz_secrets.proofs.graph.graph_of.Goals as goal

pub loop-edge-init : goal.loop-edge-init
loop-edge-init c = (refl, begun _ c.in_ok-rows.ensures.long c.new.ensures.empty c.in_ok-rows.ensures.empty)

pub add-requires-clause-fine : goal.add-requires-clause-fine
add-requires-clause-fine c = c.loop-edge.invariant.1.fine

pub add-requires-clause-below : goal.add-requires-clause-below
add-requires-clause-below c =
    subst (λ m. IsBelow m (arrow_of c.edge-item.result).from) (sym c.loop-edge.invariant.0) (below_at c.args.count c.args.edges.now c.loop-edge.edge-index c.edge-item.result (search rules) (search rules) c.requires).0

pub loop-edge-preserved : goal.loop-edge-preserved
loop-edge-preserved c =
    graph_more c.args.count c.args.edges.now c.loop-edge.edge-index c.edge-item.result c.loop-edge.graph c.add.new.self (search rules) (search rules) c.requires c.loop-edge.invariant.0 c.loop-edge.invariant.1 c.in_ok-add.ensures.fine
    c.in_ok-add.ensures.adds

pub returns-clause-graph : goal.returns-clause-graph
returns-clause-graph c = graph_all c.args.edges.now c.loop-edge.edge-index c.loop-edge.graph (search rules) c.loop-edge.invariant.1
