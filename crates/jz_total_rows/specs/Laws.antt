-- Which assignments and tests have operations by the rows of jz_row_operations.
use Rattle.std.specs.Prelude.{◌≡◌, ◌⊎◌, true, List, [], ◌∷◌, Option, Some, None, ⊤}
use Rattle.jz_io.specs.declared.span.Span.{Span}
use Rattle.jz_tree.specs.declared.expr.BinOp.{BinOp}
use Rattle.jz_tree.specs.declared.expr.Expr.{Expr}
use Rattle.jz_tree.specs.declared.expr.Expr.TheVariants as expr
use Rattle.jz_tree.specs.declared.stmt.Lval.{Lval}
use Rattle.jz_select.specs.Shapes.{is_test}
use Rattle.jz_judgement.specs.Places.{truth}
use Rattle.jz_judgement.specs.HasType.{value, HasType}
use Rattle.jz_judgement.specs.Lefts.{Values}
use Rattle.jz_judgement.specs.WellTyped as well
use Rattle.jz_meaning.specs.Statements as source
use Rattle.jz_meaning.specs.Statements.{Condition, assign}
use Rattle.jz_limits.specs.Values.{no_numbers}
use Rattle.jz_limits.specs.Asked.{asked, asked_condition}
use Rattle.jz_operations.specs.declared.operation.Operation.{Operation}
use Rattle.jz_operations.specs.Rows.{Frame}
use Rattle.jz_placing.specs.Variables.{Asked}
use Rattle.jz_change.specs.declared.change.Numbers.{Numbers}
use Rattle.jz_homes.specs.Homes.{Homes, IsHoming}
use Rattle.jz_row_operations.specs.Lowering.{Lowers, LowersTest, LowersLoopTest}
use Rattle.jz_total_rows.specs.Expanded.{IsExpanded, IsExpandedLeft}
use Rattle.jz_total_rows.specs.Covered.{IsComparison, IsCovered}

-- ---- assignments
abbrev pub IfExpanded : Homes → Option Expr → Type 0
IfExpanded home None = ⊤
IfExpanded home (Some c) = IsExpanded home c

pub record IsReadyAssign (home : Homes) (d : Lval) (o : Option BinOp) (e : Expr)
    (c : Option Expr) (at : Span) : Type 0 where
  pub left : IsExpandedLeft home d
  pub right : IsExpanded home e
  pub condition : IfExpanded home c
  -- it is well typed
  pub typed : Values (d ∷ []) o e
  pub typed_condition : well.Condition c
  -- it passes no limit; no number of an inline variable is wanted
  pub within : asked no_numbers (assign (d ∷ []) o e c at) ≡ []

abbrev pub HasRowOperations : Homes → source.Operation → Type 0
HasRowOperations home o = (os : List Operation) × (is : List Numbers) × Lowers home o os is

abbrev pub AssignmentsHaveOperations : Type 0
AssignmentsHaveOperations =
    (frame : Frame) (home : Homes) (d : Lval) (o : Option BinOp) (e : Expr) (c : Option Expr)
    (at : Span)
    → IsHoming frame home → IsReadyAssign home d o e c at → IsCovered d o e c
    → HasRowOperations home (assign (d ∷ []) o e c at)

-- ---- tests
pub record IsReadyTest (home : Homes) (c : Expr) : Type 0 where
  pub expanded : IsExpanded home c
  pub typed : HasType (value c) truth
  -- it is a condition of an `if` or a `while`
  pub matches : is_test c ≡ true
  pub within : asked_condition no_numbers c ≡ []

abbrev pub HasRowTest : Homes → Condition → Type 0
HasRowTest home t = (k : Asked) × (i : Numbers) × LowersTest home t k i

abbrev pub HasRowLoopTest : Homes → Condition → Type 0
HasRowLoopTest home t = (k : Asked) × (i : Numbers) × LowersLoopTest home t k i

abbrev pub IsTrueTest : Expr → Type 0
IsTrueTest c = (here : Span) × (c ≡ expr.Bool true here)

abbrev pub TestsHaveOperations : Type 0
TestsHaveOperations =
    (home : Homes) (t : Condition)
    → IsReadyTest home t.cond → IsComparison t.cond → HasRowTest home t

-- that of a `while` may be `true`
abbrev pub LoopTestsHaveOperations : Type 0
LoopTestsHaveOperations =
    (home : Homes) (t : Condition)
    → IsReadyTest home t.cond → IsComparison t.cond ⊎ IsTrueTest t.cond → HasRowLoopTest home t
