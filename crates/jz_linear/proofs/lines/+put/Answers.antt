use Rattle.std.proofs.Common.{rules, arith}
use Rattle.jz_linear.proofs.NodeLines.{node_few, node_on, parts_at, some_if_not, else_adds}
use Rattle.jz_linear.proofs.lines.+put.Goals as goal

pub put_block-put_node-requires : goal.put_block-put_node-requires
put_block-put_node-requires t c =
    let h = parts_at c.args.nodes.now c.loop-node.node-index c.node-item.result (search rules) (search rules) in
    (omega (arith, h, c.decreases), node_few c.args.nodes.now c.loop-node.node-index c.loop-node.next _ c.node-item.result c.loop-node.lines.items _ (search rules) (search rules) c.loop-node.invariant c.requires)

pub put_block-loop-node-preserved : goal.put_block-loop-node-preserved
put_block-loop-node-preserved t c =
    node_on c.args.nodes.now c.loop-node.node-index c.loop-node.next c.in_ok-next.next _ c.node-item.result c.loop-node.lines.items c.put_node.new.lines.items _
    (search rules) (search rules) c.loop-node.invariant c.in_ok-next.ensures

pub put_choice-put_else-requires : goal.put_choice-put_else-requires
put_choice-put_else-requires t c = (omega (arith, c.decreases), (omega (arith, c.in_ok-middle.ensures.1), omega (arith, c.in_ok-middle.ensures.1, c.requires)))

pub put_else-returns : goal.put_else-returns
put_else-returns t c =
    else_adds c.args.no.now c.args.label c.args.first c.in_ok-next.next c.args.lines.now.items c.push-2.new.self.items c.push-3.new.self.items c.put_block.new.lines.items c.push-4.new.self.items
    (some_if_not c.args.no.now c.is_empty.result c.is_empty.ensures.1 c.if-is_empty.false) c.in_ok-push-2.ensures.items c.in_ok-push-3.ensures.items c.in_ok-next.ensures c.in_ok-push-4.ensures.items

pub put_loop-put_turn-requires : goal.put_loop-put_turn-requires
put_loop-put_turn-requires t c = (omega (arith, c.decreases), (omega (arith, c.in_ok-middle.ensures.1), omega (arith, c.in_ok-middle.ensures.1, c.requires)))
