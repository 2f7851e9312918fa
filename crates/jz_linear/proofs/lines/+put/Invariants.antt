use Rattle.std.proofs.Common.{◌+◌, ◌*◌, ◌++◌}
use Rattle.jz_runs.specs.Trees.{done}
use Rattle.jz_place.specs.Codes.{then_code, code_in}
use Rattle.jz_linear.specs.Lines.{labels_in, parts_in, lines_of}
use Rattle.jz_linear.proofs.NodeLines.{IsLeft}
use Rattle.jz_linear.proofs.lines.+put.Given as goal

abbrev pub invariant-put_block-loop-node : goal.invariant-put_block-loop-node
invariant-put_block-loop-node l =
    IsLeft l.nodes l.node-index l.next l.lines.items (l.initial.lines.items ++ lines_of (code_in l.nodes) l.first)
    (l.first + labels_in (code_in l.nodes))

abbrev pub decreases-put_block : goal.decreases-put_block
decreases-put_block l = 8 * parts_in (code_in l.nodes.now) + 1

abbrev pub decreases-put_node : goal.decreases-put_node
decreases-put_node l = 8 * parts_in (then_code l.node.now done)

abbrev pub decreases-put_choice : goal.decreases-put_choice
decreases-put_choice l = 8 * (parts_in (code_in l.yes.now) + parts_in (code_in l.no.now)) + 5

abbrev pub decreases-put_else : goal.decreases-put_else
decreases-put_else l = 8 * parts_in (code_in l.no.now) + 3

abbrev pub decreases-put_loop : goal.decreases-put_loop
decreases-put_loop l = 8 * (parts_in (code_in l.prologue.now) + parts_in (code_in l.inner.now)) + 5

abbrev pub decreases-put_turn : goal.decreases-put_turn
decreases-put_turn l = 8 * parts_in (code_in l.inner.now) + 4

abbrev pub decreases-put_jumps : goal.decreases-put_jumps
decreases-put_jumps l = 8 * parts_in (code_in l.inner.now) + 3
