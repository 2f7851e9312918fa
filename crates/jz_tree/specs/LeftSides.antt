-- Expressions with a long left side.
use Rattle.std.specs.Prelude.{List, [], ◌∷◌}
use Rattle.jz_tree.specs.declared.expr.Expr.{Expr}
use Rattle.jz_tree.specs.declared.expr.Expr.TheVariants.{Bin}
use Rattle.jz_tree.specs.declared.expr.Expr.TheOpen.{Expr-F}
use Rattle.jz_tree.specs.declared.expr.Expr.TheViews.{out-Expr}
use Rattle.jz_tree.specs.declared.copying.LeftStep.{LeftStep}

-- the expression that the operations make of what stands first, the outermost of them at the head
abbrev pub on_left : List LeftStep → Expr → Expr
on_left [] e = e
on_left (s ∷ ss) e = Bin s.op (on_left ss e) s.right s.span

abbrev pub IsSingleLayer : {A B C D E : Type 0} → Expr-F A B C D E → Type 0
IsSingleLayer (Expr-F.Bin op a b at) = ⊥
IsSingleLayer _ = Unit {0}

-- it is no operation on two operands
abbrev pub IsSingle : Expr → Type 0
IsSingle e = IsSingleLayer (out-Expr e)
