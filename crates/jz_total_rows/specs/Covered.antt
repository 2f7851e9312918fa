-- The assignments and tests that need no flag result, no pair of words and no quotient, and no bool
-- variable as a condition.
use Rattle.std.specs.Prelude.{◌≡◌, Bool, true, false, [], ◌∷◌, Option, Some, None, ⊤}
use Rattle.jz_io.specs.declared.span.Span.{Span}
use Rattle.jz_tree.specs.Operators.{divides}
use Rattle.jz_tree.specs.declared.expr.BinOp.{BinOp}
use Rattle.jz_tree.specs.declared.expr.Expr.{Expr}
use Rattle.jz_tree.specs.declared.expr.Expr.TheVariants as expr
use Rattle.jz_tree.specs.declared.expr.Expr.TheOpen.{Expr-F}
use Rattle.jz_tree.specs.declared.expr.Expr.TheViews.{out-Expr}
use Rattle.jz_tree.specs.declared.stmt.Lval.{Lval}
use Rattle.jz_tree.specs.declared.stmt.Rhs.TheVariants as rhs
use Rattle.jz_tree.specs.declared.stmt.StmtKind.TheVariants as stmt
use Rattle.jz_select.specs.declared.pattern.Pattern.{Pattern}
use Rattle.jz_select.specs.Places.{Layer}
use Rattle.jz_select.specs.Look.{compares_values}
use Rattle.jz_select.specs.Selected.{IsSelected}

-- a quotient or a remainder
abbrev pub divides_layer : Layer → Bool
divides_layer (Expr-F.Bin o a b at) = divides o
divides_layer _ = false

abbrev pub is_quotient : Option BinOp → Expr → Bool
is_quotient None e = divides_layer (out-Expr e)
is_quotient (Some o) e = divides o

-- a comparison, or one that is denied
pub data IsComparison : Expr → Type 0 where
  compares :
      (o : BinOp) (a b : Expr) (at : Span) → compares_values o ≡ true
      → IsComparison (expr.Bin o a b at)
  denies : (e : Expr) (at : Span) → IsComparison e → IsComparison (expr.Not e at)

abbrev pub IfCompared : Option Expr → Type 0
IfCompared None = ⊤
IfCompared (Some c) = IsComparison c

-- an assignment to one left side that has a row, and is no quotient; its condition is a comparison
pub record IsCovered (d : Lval) (o : Option BinOp) (e : Expr) (c : Option Expr) : Type 0 where
  pub row : Pattern
  pub selected : IsSelected (stmt.Assign (d ∷ []) o (rhs.Value e) c) (Some row)
  pub other : is_quotient o e ≡ false
  pub compared : IfCompared c
