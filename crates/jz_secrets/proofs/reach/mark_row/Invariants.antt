use Rattle.std.proofs.Common.{◌≡◌, ◌+◌, take, length}
use Rattle.jz_secrets.specs.InnerGraphs.{unmarked, MarksRow}
use Rattle.jz_secrets.proofs.reach.mark_row.Given as goal

abbrev pub invariant-loop-next : goal.invariant-loop-next
invariant-loop-next l =
    MarksRow (take l.next-index l.row) l.fn.marked.items l.marked.items l.fn.left.items l.left.items
    × (unmarked l.marked.items + length l.left.items ≡ unmarked l.fn.marked.items + length l.fn.left.items)
