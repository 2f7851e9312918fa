-- When two operands are one place, and when a place stands in an operand.
use Rattle.std.specs.Prelude.{Bool, true, false, ◌&&◌, ◌||◌, not, Option, Some, None, if◌then◌else◌}
use Rattle.jz_tree.specs.declared.expr.Expr.{Expr}
use Rattle.jz_tree.specs.declared.expr.Ty.{Ty}
use Rattle.jz_tree.specs.declared.expr.Access.{Access}
use Rattle.jz_tree.specs.declared.expr.Decl.{Decl}
use Rattle.jz_tree.specs.declared.expr.Var.{Var}
use Rattle.jz_tree.specs.declared.expr.Expr.TheOpen.{Expr-F}
use Rattle.jz_tree.specs.declared.expr.Expr.TheViews.{out-Expr, out-Access}
use Rattle.jz_tree.specs.declared.expr.Expr.TheFolds.{para-Expr}
use Rattle.jz_tree.specs.declared.stmt.Lval.{Lval}
use Rattle.jz_tree.specs.declared.stmt.Lval.TheVariants as lval
use Rattle.jz_select.specs.declared.class.Meeting.{Meeting}
use Rattle.jz_select.specs.declared.class.Meeting.TheVariants as meeting
use Rattle.jz_select.specs.Trees.{Named, named_variable, names_eq, Tree, Number, tree_of, index_of, tree_eq}

abbrev pub Layer : Type 0
Layer = Expr-F Expr Ty Access Decl Var

-- ---- comparisons of indices
-- an answer to each comparison of an index of the destination with an index of an operand that is
-- open
abbrev pub Answers : Type 0
Answers = Tree → Tree → Bool

abbrev pub is_number : Tree → Bool
is_number (Number n) = true
is_number _ = false

-- two cells of one array are one cell: their indices are equal, or the answer says so; two values
-- that differ are two
abbrev pub one_cell : Answers → Tree → Tree → Bool
one_cell answers x y = tree_eq x y || (not (is_number x && is_number y) && answers x y)

-- ---- where a place stands in an expression
abbrev pub same_index : Answers → Option Tree → Tree → Bool
same_index answers None y = true
same_index answers (Some x) y = one_cell answers x y

abbrev pub UseLayer : Type 0
UseLayer = Expr-F (Expr × Bool) (Ty × Unit {0}) (Access × Bool) (Decl × Unit {0}) (Var × Unit {0})

abbrev pub use_step : Answers → Named → Option Tree → UseLayer → Bool
use_step answers d x (Expr-F.Num n at) = false
use_step answers d x (Expr-F.Expr::Bool b at) = false
use_step answers d x (Expr-F.Var v) = names_eq (named_variable v.0) d
use_step answers d x (Expr-F.Cell v at) =
    (names_eq (named_variable v.0) d && same_index answers x (index_of at.0)) || at.1
use_step answers d x (Expr-F.Load a) = a.1
use_step answers d x (Expr-F.Neg a at) = a.1
use_step answers d x (Expr-F.Not a at) = a.1
use_step answers d x (Expr-F.Cast z s a at) = a.1
use_step answers d x (Expr-F.Bin o a b at) = b.1 || a.1

-- a variable, or its cell with that index, stands in the expression
unfoldable pub touches : Answers → Named → Option Tree → Expr → Bool
touches answers d x = para-Expr Bool (Unit {0}) Bool (Unit {0}) (Unit {0}) (use_step answers d x)
    (λ t. tt) (λ a. a.at.1) (λ d. tt) (λ v. tt)

-- ---- how a destination and an operand meet
abbrev pub elsewhere : Bool → Meeting
elsewhere t = if t then meeting.Within else meeting.Apart

abbrev pub one_or_apart : Bool → Meeting
one_or_apart same = if same then meeting.Same else meeting.Apart

abbrev pub var_layer_meets : Answers → Named → Expr → Layer → Meeting
var_layer_meets answers d e (Expr-F.Var v) = one_or_apart (names_eq (named_variable v) d)
var_layer_meets answers d e _ = elsewhere (touches answers d None e)

abbrev pub cell_layer_meets : Answers → Named → Tree → Expr → Layer → Meeting
cell_layer_meets answers d x e (Expr-F.Cell v at) =
    if names_eq (named_variable v) d then one_or_apart (one_cell answers x (index_of at))
    else elsewhere (touches answers d (Some x) e)
cell_layer_meets answers d x e _ = elsewhere (touches answers d (Some x) e)

abbrev pub store_layer_meets : Tree → Layer → Meeting
store_layer_meets at (Expr-F.Load a) = one_or_apart (tree_eq at (tree_of (out-Access a).at))
store_layer_meets at _ = meeting.Apart

-- equal variables, one cell of an array and accesses with equal address trees are one place
abbrev pub meeting_of : Answers → Lval → Expr → Meeting
meeting_of answers (lval.Skip at) e = meeting.Apart
meeting_of answers (lval.Var v) e = var_layer_meets answers (named_variable v) e (out-Expr e)
meeting_of answers (lval.Cell v k) e =
    cell_layer_meets answers (named_variable v) (index_of k) e (out-Expr e)
meeting_of answers (lval.Store a) e = store_layer_meets (tree_of (out-Access a).at) (out-Expr e)
