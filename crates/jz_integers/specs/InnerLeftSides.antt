-- An expression by its left side: the operations on the way down, and the operand where it ends.
use Rattle.std.specs.Prelude.{ℕ, zero, suc, List, [], ◌∷◌, Option}
use Rattle.jz_tree.specs.declared.expr.BinOp.{BinOp}
use Rattle.jz_tree.specs.declared.expr.Expr.{Expr}
use Rattle.jz_tree.specs.declared.expr.Expr.TheVariants.{Bin}
use Rattle.jz_tree.specs.declared.expr.Expr.TheViews.{out-Expr}
use Rattle.jz_tree.specs.declared.expr.Expr.TheOpen.{Expr-F}
use Rattle.jz_integers.specs.declared.constant.Constant.{Constant}
use Rattle.jz_integers.specs.declared.sides.Waiting.{Waiting}
use Rattle.jz_integers.specs.Integers.{KnownNumbers, joined, inline_value}

-- the expression that the operations make of what stands first, the outermost of them at the head
abbrev pub on_left : List Waiting → Expr → Expr
on_left [] e = e
on_left (w ∷ ws) e = Bin w.op (on_left ws e) w.right.now w.span

abbrev pub left_layer : {B C D E : Type 0} → Expr → Expr-F Expr B C D E → Expr
left_layer e (Expr-F.Bin op a b at) = a
left_layer e _ = e

-- the left operand, or the expression itself where it has none
abbrev pub left_of : Expr → Expr
left_of e = left_layer e (out-Expr e)

-- that many steps down the left side, which may end before
abbrev pub left_at : ℕ → Expr → Expr
left_at zero e = e
left_at (suc k) e = left_at k (left_of e)

-- the value of an operation whose left part has this value
abbrev pub value_after : KnownNumbers → BinOp → Option Constant → Expr → Option Constant
value_after numbers op x e = joined op x (inline_value numbers e)
