-- Statements with a row of the pattern table.
use Rattle.std.specs.Prelude.{ℕ, List, [], ◌∷◌, Option, Some, None}
use Rattle.jz_tree.specs.Span.{Span}
use Rattle.jz_tree.specs.declared.expr.BinOp.{BinOp}
use Rattle.jz_tree.specs.declared.expr.Expr.{Expr}
use Rattle.jz_tree.specs.declared.stmt.Lval.{Lval}
use Rattle.jz_tree.specs.declared.stmt.Rhs.TheVariants as rhs
use Rattle.jz_tree.specs.declared.stmt.StmtKind.TheVariants as stmt
use Rattle.jz_select.specs.declared.pattern.Pattern.{Pattern}
use Rattle.jz_select.specs.Selected.{IsSelected}

-- `d = e`, `d op= e` or `d = e if c` has a row
abbrev pub IsMatched : Lval → Option BinOp → Expr → Option Expr → Type 0
IsMatched d o e c =
    (row : Pattern) × IsSelected (stmt.Assign (d ∷ []) o (rhs.Value e) c) (Some row)

-- so does `f, d = e` or `f, d op= e`
abbrev pub IsPairMatched : Lval → Lval → Option BinOp → Expr → Type 0
IsPairMatched f d o e =
    (row : Pattern) × IsSelected (stmt.Assign (f ∷ d ∷ []) o (rhs.Value e) None) (Some row)

-- and an intrinsic
abbrev pub IsInstructionMatched : List Lval → List ℕ → List Expr → Span → Type 0
IsInstructionMatched to n args at =
    (row : Pattern) × IsSelected (stmt.Assign to None (rhs.Intrinsic n args at) None) (Some row)
