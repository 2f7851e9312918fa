-- The statements of a body, and what stands in one statement itself: its expressions, the names
-- that it reads, sets and calls.
use Rattle.std.specs.Prelude.{Bool, true, false, List, [], ◌∷◌, ◌++◌, flat_map, map, Some, None, option_to_list}
use Rattle.jz_tree.specs.Span.{Span}
use Rattle.jz_tree.specs.declared.expr.Expr.{Expr}
use Rattle.jz_tree.specs.declared.expr.Ty.{Ty}
use Rattle.jz_tree.specs.declared.expr.Access.{Access}
use Rattle.jz_tree.specs.declared.expr.Decl.{Decl}
use Rattle.jz_tree.specs.declared.expr.Var.{Var}
use Rattle.jz_tree.specs.declared.expr.Expr.TheOpen.{Expr-F, Ty-F}
use Rattle.jz_tree.specs.declared.expr.Expr.TheViews.{out-Expr, out-Ty, out-Access, out-Var}
use Rattle.jz_tree.specs.declared.expr.Expr.TheFolds.{fold-Expr, para-Expr}
use Rattle.jz_tree.specs.declared.stmt.Lval.{Lval}
use Rattle.jz_tree.specs.declared.stmt.Lval.TheVariants as lval
use Rattle.jz_tree.specs.declared.stmt.Rhs.{Rhs}
use Rattle.jz_tree.specs.declared.stmt.Rhs.TheVariants as rhs
use Rattle.jz_tree.specs.declared.stmt.Stmt.{Stmt}
use Rattle.jz_tree.specs.declared.stmt.StmtKind.{StmtKind}
use Rattle.jz_tree.specs.declared.stmt.StmtKind.TheOpen.{StmtKind-F}
use Rattle.jz_tree.specs.declared.stmt.StmtKind.TheViews.{out-StmtKind, roll-Stmt}
use Rattle.jz_tree.specs.declared.stmt.StmtKind.TheFolds.{para-Stmt}
use Rattle.jz_type_names.specs.Scopes.{Name, name_of}

-- ---- expressions
-- the first token of an expression
abbrev pub span_layer : Expr-F Expr Ty Access Decl Var → Span
span_layer (Expr-F.Num n at) = at
span_layer (Expr-F.Expr::Bool b at) = at
span_layer (Expr-F.Var v) = (out-Var v).span
span_layer (Expr-F.Cell v at) = (out-Var v).span
span_layer (Expr-F.Load a) = (out-Access a).span
span_layer (Expr-F.Neg a at) = at
span_layer (Expr-F.Not a at) = at
span_layer (Expr-F.Cast size signed a at) = at
span_layer (Expr-F.Bin op a b at) = at

abbrev pub span_of : Expr → Span
span_of e = span_layer (out-Expr e)

-- what stands for the variables of an expression, in the order of the text
abbrev pub leaves_step : {V : Type 0} → Expr-F (List V) (Unit {0}) (List V) (Unit {0}) V → List V
leaves_step (Expr-F.Num n at) = []
leaves_step (Expr-F.Expr::Bool b at) = []
leaves_step (Expr-F.Var v) = v ∷ []
leaves_step (Expr-F.Cell v at) = v ∷ at
leaves_step (Expr-F.Load a) = a
leaves_step (Expr-F.Neg a at) = a
leaves_step (Expr-F.Not a at) = a
leaves_step (Expr-F.Cast size signed a at) = a
leaves_step (Expr-F.Bin op a b at) = a ++ b

abbrev pub names_step : Expr-F (List Name) (Unit {0}) (List Name) (Unit {0}) Name → List Name
names_step x = leaves_step x

-- the names in an expression
abbrev pub names_in : Expr → List Name
names_in = fold-Expr _ _ _ _ _ names_step (λ t. tt) (λ a. a.at) (λ d. tt) (λ v. (v.name, v.span))

-- the length of an array
abbrev pub length_layer : Ty-F Expr Ty Access Decl Var → List Expr
length_layer (Ty-F.Array z e) = e ∷ []
length_layer _ = []

abbrev pub lengths_in : Decl → List Expr
lengths_in d = length_layer (out-Ty d.ty)

-- ---- cells of arrays
abbrev pub Cells : Type 0
Cells = List (Var × Expr)

-- a layer whose parts are there with their cells
abbrev pub CellsLayer : Type 0
CellsLayer =
    Expr-F (Expr × Cells) (Ty × Unit {0}) (Access × Cells) (Decl × Unit {0}) (Var × Unit {0})

abbrev pub cells_step : CellsLayer → Cells
cells_step (Expr-F.Num n at) = []
cells_step (Expr-F.Expr::Bool b at) = []
cells_step (Expr-F.Var v) = []
cells_step (Expr-F.Cell v i) = (v.0, i.0) ∷ i.1
cells_step (Expr-F.Load a) = a.1
cells_step (Expr-F.Neg a at) = a.1
cells_step (Expr-F.Not a at) = a.1
cells_step (Expr-F.Cast z s a at) = a.1
cells_step (Expr-F.Bin o a b at) = a.1 ++ b.1

-- the cells in an expression, each as its array and index
abbrev pub cells_in : Expr → Cells
cells_in =
    para-Expr Cells (Unit {0}) Cells (Unit {0}) (Unit {0})
    cells_step (λ t. tt) (λ a. a.at.1) (λ d. tt) (λ v. tt)

-- the arrays of these cells, by their names
abbrev pub arrays_of : Cells → List Name
arrays_of cs = map (λ c. name_of c.0) cs

-- the names in an expression that stand before an index
abbrev pub arrays_in : Expr → List Name
arrays_in e = arrays_of (cells_in e)

-- ---- statements
abbrev pub nested_statements : List (Stmt × List Stmt) → List Stmt
nested_statements ss = flat_map (λ s. s.1) ss

abbrev pub nested_step : StmtKind-F (StmtKind × List Stmt) (Stmt × List Stmt) → List Stmt
nested_step (StmtKind-F.If c a b) = nested_statements a ++ nested_statements b
nested_step (StmtKind-F.While p c None) = nested_statements p
nested_step (StmtKind-F.While p c (Some b)) = nested_statements p ++ nested_statements b
nested_step (StmtKind-F.For i from down to b) = nested_statements b
nested_step _ = []

-- a statement and all that stand in it
abbrev pub statements_in : Stmt → List Stmt
statements_in =
    para-Stmt (List Stmt) (List Stmt) nested_step
    (λ s. roll-Stmt (record { notes = s.notes; span = s.span; kind = s.kind.0 }) ∷ s.kind.1)

abbrev pub statements_of : List Stmt → List Stmt
statements_of ss = flat_map statements_in ss

-- ---- one statement, without those that stand in it
abbrev pub Layer : Type 0
Layer = StmtKind-F StmtKind Stmt

abbrev pub layer_of : Stmt → Layer
layer_of s = out-StmtKind s.kind

abbrev pub left_exprs : Lval → List Expr
left_exprs (lval.Cell v at) = at ∷ []
left_exprs (lval.Store a) = (out-Access a).at ∷ []
left_exprs _ = []

abbrev pub right_exprs : Rhs → List Expr
right_exprs (rhs.Value e) = e ∷ []
right_exprs (rhs.Call n args at) = args
right_exprs (rhs.Intrinsic n args at) = args

-- its expressions, indexes and addresses of its left sides among them
abbrev pub exprs_of : Layer → List Expr
exprs_of (StmtKind-F.Assign to op from cond) =
    flat_map left_exprs to ++ right_exprs from ++ option_to_list cond
exprs_of (StmtKind-F.If c a b) = c ∷ []
exprs_of (StmtKind-F.While p c b) = c ∷ []
exprs_of (StmtKind-F.For i from down to b) = from ∷ to ∷ []
exprs_of (StmtKind-F.Mark vs) = []

abbrev pub read_by : Layer → List Name
read_by k = flat_map names_in (exprs_of k)

-- the names in its expressions that stand before an index
abbrev pub arrays_read_by : Layer → List Name
arrays_read_by k = flat_map arrays_in (exprs_of k)

-- `_`
abbrev pub is_skip : Lval → Bool
is_skip (lval.Skip at) = true
is_skip _ = false

-- the whole variables among the left sides
abbrev pub whole_left : Lval → List Var
whole_left (lval.Var v) = v ∷ []
whole_left _ = []

abbrev pub left_vars : Lval → List Var
left_vars (lval.Var v) = v ∷ []
left_vars (lval.Cell v at) = v ∷ []
left_vars _ = []

-- the variables that it sets, as a whole or a cell
abbrev pub set_by : Layer → List Var
set_by (StmtKind-F.Assign to op from cond) = flat_map left_vars to
set_by (StmtKind-F.For i from down to b) = i ∷ []
set_by _ = []

-- the variables that it sets as a whole
abbrev pub wholly_set_by : Layer → List Var
wholly_set_by (StmtKind-F.Assign to op from cond) = flat_map whole_left to
wholly_set_by _ = []

abbrev pub called_by : Layer → List Name
called_by (StmtKind-F.Assign to op (rhs.Call n args at) cond) = (n, at) ∷ []
called_by _ = []

-- the cells that it sets
abbrev pub left_cells : Lval → Cells
left_cells (lval.Cell v i) = (v, i) ∷ []
left_cells _ = []

abbrev pub cells_set : Layer → Cells
cells_set (StmtKind-F.Assign to op from cond) = flat_map left_cells to
cells_set _ = []
