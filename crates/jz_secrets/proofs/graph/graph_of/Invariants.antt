use Rattle.std.proofs.Common.{◌≡◌, take}
use Rattle.jz_secrets.specs.Graphs.{arrows_of}
use Rattle.jz_secrets.specs.InnerGraphs.{IsGraphOf}
use Rattle.jz_secrets.proofs.graph.graph_of.Given as goal

abbrev pub invariant-loop-edge : goal.invariant-loop-edge
invariant-loop-edge l = (l.graph.count ≡ l.count) × IsGraphOf (arrows_of (take l.edge-index l.edges)) l.graph
