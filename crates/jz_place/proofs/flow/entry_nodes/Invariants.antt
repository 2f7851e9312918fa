use Rattle.std.proofs.Common.{◌≡◌, map, take}
use Rattle.jz_ir.specs.declared.code.Node.TheVariants as node
use Rattle.jz_place.specs.Bodies.{entry_op}
use Rattle.jz_place.proofs.flow.entry_nodes.Given as goal

abbrev pub invariant-loop-passed : goal.invariant-loop-passed
invariant-loop-passed l = l.made ≡ map (λ p. node.Op (entry_op p)) (take l.passed-index l.passed-items)
