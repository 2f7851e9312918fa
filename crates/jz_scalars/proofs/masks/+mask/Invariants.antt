use Rattle.std.proofs.Common.{◌≡◌, ◌≤◌}
use Rattle.jz_tree.specs.declared.expr.Expr.{size-Expr}
use Rattle.jz_scalars.specs.InnerMasks.{masked_of, masked_left}
use Rattle.jz_scalars.proofs.masks.+mask.Given as goal

abbrev pub invariant-masked_side-loop-rest : goal.invariant-masked_side-loop-rest
invariant-masked_side-loop-rest l =
    (masked_left l.operands.items (masked_of l.rest) ≡ masked_of l.expr)
    × (size-Expr l.rest ≤ size-Expr l.expr)
