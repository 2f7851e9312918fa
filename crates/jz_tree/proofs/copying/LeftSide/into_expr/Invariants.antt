use Rattle.std.proofs.Common.{◌≡◌, length}
use Rattle.jz_tree.specs.LeftSides.{on_left}
use Rattle.jz_tree.proofs.copying.LeftSide.into_expr.Given as goal

abbrev pub invariant-loop-op : goal.invariant-loop-op
invariant-loop-op l = on_left l.steps.items l.first ≡ on_left l.fn.self.steps.items l.fn.self.first

abbrev pub decreases-loop-op : goal.decreases-loop-op
decreases-loop-op l = length l.steps.items
