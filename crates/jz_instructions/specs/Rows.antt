-- The row of an intrinsic.
use Rattle.std.specs.Prelude.{ℕ, List}
use Rattle.jz_tree.specs.Span.{Span}
use Rattle.jz_tree.specs.declared.expr.Expr.{Expr}
use Rattle.jz_tree.specs.declared.stmt.Lval.{Lval}
use Rattle.jz_meaning.specs.Statements.{instruction}
use Rattle.jz_operations.specs.declared.operation.Operation.{Operation}
use Rattle.jz_change.specs.declared.change.Numbers.{Numbers}
use Rattle.jz_homes.specs.Homes.{Homes}
use Rattle.jz_flag_rows.specs.Results.{begins_at}
use Rattle.jz_flag_rows.specs.Rows.{LowersFlags}
use Rattle.jz_pinned_rows.specs.declared.row.PinnedRow.{PinnedRow}
use Rattle.jz_pinned_rows.specs.Rows.{items_of, operations_at}

-- wherever it stands, its operations stand where the statement begins
abbrev pub IsInstructionRow : Homes → List Lval → List ℕ → List Expr → PinnedRow → Type 0
IsInstructionRow home to n es r =
    (at : Span) → LowersFlags home (instruction to n es at) (operations_at (begins_at to at) r)
    (items_of r.acts)

abbrev pub NeverInstruction : Homes → List Lval → List ℕ → List Expr → Type 0
NeverInstruction home to n es =
    (at : Span) (os : List Operation) (is : List Numbers)
    → LowersFlags home (instruction to n es at) os is → ⊥
