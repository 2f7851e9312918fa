-- Which statements and tests have operations, by both tables.
use Rattle.std.specs.Prelude.{◌≡◌, ◌⊎◌, ℕ, true, List, [], ◌∷◌, All, Option, Some, None}
use Rattle.jz_io.specs.declared.span.Span.{Span}
use Rattle.jz_tree.specs.declared.expr.BinOp.{BinOp}
use Rattle.jz_tree.specs.declared.expr.Expr.{Expr}
use Rattle.jz_tree.specs.declared.stmt.Lval.{Lval}
use Rattle.jz_tree.specs.declared.stmt.Rhs.TheVariants as rhs
use Rattle.jz_tree.specs.declared.stmt.StmtKind.{StmtKind}
use Rattle.jz_tree.specs.declared.stmt.StmtKind.TheVariants as stmt
use Rattle.jz_select.specs.declared.pattern.Pattern.{Pattern}
use Rattle.jz_select.specs.Selected.{IsSelected}
use Rattle.jz_select.specs.Shapes.{has_flags}
use Rattle.jz_type_sizes.specs.Signatures.{signature}
use Rattle.jz_judgement.specs.Places.{truth}
use Rattle.jz_judgement.specs.HasType.{value, HasType}
use Rattle.jz_judgement.specs.Lefts.{Values}
use Rattle.jz_judgement.specs.WellTyped.{Instructs}
use Rattle.jz_meaning.specs.Statements as source
use Rattle.jz_meaning.specs.Statements.{Condition, assign, instruction}
use Rattle.jz_limits.specs.Values.{no_numbers}
use Rattle.jz_limits.specs.Asked.{asked, asked_condition}
use Rattle.jz_operations.specs.declared.operation.Operation.{Operation}
use Rattle.jz_operations.specs.Rows.{Frame}
use Rattle.jz_placing.specs.Variables.{Asked}
use Rattle.jz_change.specs.declared.change.Numbers.{Numbers}
use Rattle.jz_homes.specs.Homes.{Homes, IsHoming}
use Rattle.jz_every_row.specs.Statements.{Makes, MakesTest, MakesLoopTest}
use Rattle.jz_total_rows.specs.Expanded.{IsExpanded, IsExpandedLeft}
use Rattle.jz_total_rows.specs.Laws.{IsReadyAssign, IsTrueTest}

-- ---- what there is of a statement and of a test
abbrev pub HasOperations : Homes → source.Operation → Type 0
HasOperations home o = (os : List Operation) × (is : List Numbers) × Makes home o os is

abbrev pub HasTest : Homes → Condition → Type 0
HasTest home t = (k : Asked) × (i : Numbers) × MakesTest home t k i

abbrev pub HasLoopTest : Homes → Condition → Type 0
HasLoopTest home t = (k : Asked) × (i : Numbers) × MakesLoopTest home t k i

-- ---- statements
-- it has a row of the pattern table
abbrev pub HasRowOf : StmtKind → Type 0
HasRowOf k = (row : Pattern) × IsSelected k (Some row)

-- an assignment to two left sides is expanded, well typed and within the limits
pub record IsReadyPair (home : Homes) (f d : Lval) (o : Option BinOp) (e : Expr) (at : Span) :
    Type 0 where
  pub first : IsExpandedLeft home f
  pub second : IsExpandedLeft home d
  pub right : IsExpanded home e
  pub typed : Values (f ∷ d ∷ []) o e
  pub within : asked no_numbers (assign (f ∷ d ∷ []) o e None at) ≡ []

-- so is an intrinsic
pub record IsReadyInstruction (home : Homes) (to : List Lval) (n : List ℕ) (args : List Expr)
    (at : Span) : Type 0 where
  pub lefts : All (IsExpandedLeft home) to
  pub operands : All (IsExpanded home) args
  pub typed : Instructs (signature n) to args
  pub within : asked no_numbers (instruction to n args at) ≡ []

abbrev pub AllAssignmentsHaveOperations : Type 0
AllAssignmentsHaveOperations =
    (frame : Frame) (home : Homes) (d : Lval) (o : Option BinOp) (e : Expr) (c : Option Expr)
    (at : Span)
    → IsHoming frame home → IsReadyAssign home d o e c at
    → HasRowOf (stmt.Assign (d ∷ []) o (rhs.Value e) c)
    → HasOperations home (assign (d ∷ []) o e c at)

abbrev pub PairsHaveOperations : Type 0
PairsHaveOperations =
    (frame : Frame) (home : Homes) (f d : Lval) (o : Option BinOp) (e : Expr) (at : Span)
    → IsHoming frame home → IsReadyPair home f d o e at
    → HasRowOf (stmt.Assign (f ∷ d ∷ []) o (rhs.Value e) None)
    → HasOperations home (assign (f ∷ d ∷ []) o e None at)

abbrev pub InstructionsHaveOperations : Type 0
InstructionsHaveOperations =
    (frame : Frame) (home : Homes) (to : List Lval) (n : List ℕ) (args : List Expr) (at : Span)
    → IsHoming frame home → IsReadyInstruction home to n args at
    → HasRowOf (stmt.Assign to None (rhs.Intrinsic n args at) None)
    → HasOperations home (instruction to n args at)

-- ---- tests
-- a comparison or a bool variable, denied or not
pub record IsReadyCondition (home : Homes) (c : Expr) : Type 0 where
  pub expanded : IsExpanded home c
  pub typed : HasType (value c) truth
  pub matches : has_flags c ≡ true
  pub within : asked_condition no_numbers c ≡ []

-- that of a `while` may be `true`
abbrev pub IsReadyLoopTest : Homes → Expr → Type 0
IsReadyLoopTest home c = IsReadyCondition home c ⊎ IsTrueTest c

abbrev pub AllTestsHaveOperations : Type 0
AllTestsHaveOperations =
    (home : Homes) (t : Condition) → IsReadyCondition home t.cond → HasTest home t

abbrev pub AllLoopTestsHaveOperations : Type 0
AllLoopTestsHaveOperations =
    (home : Homes) (t : Condition) → IsReadyLoopTest home t.cond → HasLoopTest home t
