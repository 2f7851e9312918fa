use Rattle.std.proofs.Common.{◌≡◌, drop}
use Rattle.jz_place.specs.Codes.{code_in}
use Rattle.jz_stack.proofs.NodeFrames.{any_names}
use Rattle.jz_stack.proofs.naming.+named.Given as goal

abbrev pub invariant-block_names-loop-node : goal.invariant-block_names-loop-node
invariant-block_names-loop-node l =
    any_names l.reg (code_in (drop l.node-index l.nodes)) ≡ any_names l.reg (code_in l.nodes)
