-- Operations on the left side of an expression.
use Rattle.std.proofs.Common.{◌≡◌, ◌<◌, List, [], ◌∷◌, ◌++◌, refl, ap, arith}
use Rattle.jz_io.specs.declared.span.Span.{Span}
use Rattle.jz_tree.specs.declared.copying.LeftStep.{LeftStep}
use Rattle.jz_tree.specs.declared.expr.BinOp.{BinOp}
use Rattle.jz_tree.specs.declared.expr.Expr.{Expr, size-Expr}
use Rattle.jz_tree.specs.declared.expr.Expr.TheVariants.{Bin}
use Rattle.jz_tree.specs.declared.expr.Expr.TheViews.{sized-Bin}
use Rattle.jz_tree.specs.LeftSides.{on_left}

pub last_step : (ss : List LeftStep) (s : LeftStep) (e : Expr) → on_left (ss ++ s ∷ []) e ≡ on_left ss (Bin s.op e s.right s.span)
last_step [] s e = refl
last_step (t ∷ ss) s e = ap (λ x. Bin t.op x t.right t.span) (last_step ss s e)

pub left_smaller : (op : BinOp) (l r : Expr) (s : Span) → size-Expr l < size-Expr (Bin op l r s)
left_smaller op l r s = rw (sized-Bin op l r s) (search arith)
