use Rattle.std.proofs.Common.{rules, ◌∙◌, sym}
use Rattle.jz_place.specs.Codes.{code_in}
use Rattle.jz_stack.proofs.NodeFrames.{any_names, names_on, names_here}
use Rattle.jz_stack.proofs.naming.+named.Goals as goal

pub block_names-returns-then-node_names : goal.block_names-returns-then-node_names
block_names-returns-then-node_names t c =
    names_here c.args.reg c.args.nodes.now c.loop-node.node-index c.node-item.result (any_names c.args.reg (code_in c.args.nodes.now)) (search rules) (search rules) c.loop-node.invariant
    (sym c.node_names.ensures ∙ c.if-node_names.true)

pub block_names-loop-node-preserved : goal.block_names-loop-node-preserved
block_names-loop-node-preserved t c =
    names_on c.args.reg c.args.nodes.now c.loop-node.node-index c.node-item.result (any_names c.args.reg (code_in c.args.nodes.now)) (search rules) (search rules) c.loop-node.invariant
    (sym c.node_names.ensures ∙ c.if-node_names.false)
