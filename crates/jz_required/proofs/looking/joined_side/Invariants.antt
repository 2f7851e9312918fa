use Rattle.std.proofs.Common.{◌≡◌, length}
use Rattle.jz_required.specs.Kept.{reading_of}
use Rattle.jz_required.specs.InnerSides.{on_operands}
use Rattle.jz_required.proofs.looking.joined_side.Given as goal

abbrev pub invariant-loop-operand : goal.invariant-loop-operand
invariant-loop-operand l =
    on_operands l.operands.items (reading_of l.first)
    ≡ on_operands l.fn.side.operands.items (reading_of l.fn.side.first)

abbrev pub decreases-loop-operand : goal.decreases-loop-operand
decreases-loop-operand l = length l.operands.items
