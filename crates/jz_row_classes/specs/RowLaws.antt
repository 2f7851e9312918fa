-- A statement that has a row has classes.
use Rattle.std.specs.Prelude.{◌≡◌, ℕ, false, List, Option, Some, None}
use Rattle.jz_tree.specs.Span.{Span}
use Rattle.jz_tree.specs.Spellings.{spelled}
use Rattle.jz_tree.specs.declared.expr.BinOp.{BinOp}
use Rattle.jz_tree.specs.declared.expr.Expr.{Expr}
use Rattle.jz_tree.specs.declared.stmt.Lval.{Lval}
use Rattle.jz_tree.specs.declared.stmt.Rhs.TheVariants as rhs
use Rattle.jz_tree.specs.declared.stmt.StmtKind.{StmtKind}
use Rattle.jz_tree.specs.declared.stmt.StmtKind.TheVariants as stmt
use Rattle.jz_tree.specs.declared.intrinsic.Instance.{Instance}
use Rattle.jz_select.specs.declared.pattern.Pattern.{Pattern}
use Rattle.jz_select.specs.Selected.{IsSelected}
use Rattle.jz_stuck_runs.specs.Sizes.{gives_byte}
use Rattle.jz_row_classes.specs.RowClasses.{AreClassed, HasSize, IsInstanceClassed}

abbrev pub HasRow : StmtKind → Type 0
HasRow s = (p : Pattern) × IsSelected s (Some p)

abbrev pub AssignmentsHaveClasses : Type 0
AssignmentsHaveClasses =
    (to : List Lval) (o : Option BinOp) (e : Expr) (c : Option Expr)
    → HasRow (stmt.Assign to o (rhs.Value e) c) → AreClassed to o e c

-- an instruction for which typing finds a size
abbrev pub InstructionsHaveClasses : Type 0
InstructionsHaveClasses =
    (to : List Lval) (n : List ℕ) (args : List Expr) (at : Span)
    → ((i : Instance) → spelled n ≡ Some i → gives_byte i.name ≡ false → HasSize i to args)
    → HasRow (stmt.Assign to None (rhs.Intrinsic n args at) None) → IsInstanceClassed to n args
