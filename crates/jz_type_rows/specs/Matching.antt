-- NoInstruction: a statement matches a row of the tables, and so do the copies of a call.
use Rattle.std.specs.Prelude.{Bool, true, false, not, ◌&&◌, ◌||◌, is_some, if◌then◌else◌, List, [], ◌∷◌, Option, Some, None}
use Rattle.std.specs.List.{list_all, zip}
use Rattle.jz_tree.specs.Span.{Span}
use Rattle.jz_tree.specs.declared.expr.Expr.{Expr}
use Rattle.jz_tree.specs.declared.expr.Ty.{Ty}
use Rattle.jz_tree.specs.declared.expr.Access.{Access}
use Rattle.jz_tree.specs.declared.expr.Decl.{Decl}
use Rattle.jz_tree.specs.declared.expr.Var.{Var}
use Rattle.jz_tree.specs.declared.expr.Expr.TheOpen.{Expr-F}
use Rattle.jz_tree.specs.declared.expr.Expr.TheViews.{out-Expr}
use Rattle.jz_tree.specs.declared.stmt.Lval.{Lval}
use Rattle.jz_tree.specs.declared.stmt.Lval.TheVariants as lval
use Rattle.jz_tree.specs.declared.stmt.Rhs.TheVariants as rhs
use Rattle.jz_tree.specs.declared.stmt.Stmt.{Stmt}
use Rattle.jz_tree.specs.declared.stmt.StmtKind.{StmtKind}
use Rattle.jz_tree.specs.declared.stmt.StmtKind.TheOpen.{StmtKind-F}
use Rattle.jz_select.specs.Selected.{pattern_selected, pattern_copied}
use Rattle.jz_type_names.specs.Order.{unless}
use Rattle.jz_type_names.specs.Parts.{Layer, layer_of, is_skip}
use Rattle.jz_type_names.specs.Kinds.{known_of, is_inline_int, is_inline, is_word}
use Rattle.jz_type_rows.specs.declared.callee.Callee.{Callee}

-- ---- which statements need a row
abbrev pub is_set_inline : Lval → Bool
is_set_inline (lval.Var v) = is_inline_int (known_of v)
is_set_inline _ = false

abbrev pub may_be_inline : Option Expr → Bool
may_be_inline None = true
may_be_inline (Some c) = is_inline c

-- what sets one inline variable alone, with no condition or an inline one
abbrev pub sets_inline : List Lval → Option Expr → Bool
sets_inline (d ∷ []) cond = is_set_inline d && may_be_inline cond
sets_inline _ cond = false

-- all but a `for`, a call with neither `if` nor `op=`, and what sets one inline variable alone
abbrev pub needs_row : Layer → Bool
needs_row (StmtKind-F.Assign to op (rhs.Call n args at) cond) = is_some op || is_some cond
needs_row (StmtKind-F.Assign to op (rhs.Value e) cond) = not (sets_inline to cond)
needs_row (StmtKind-F.Assign to op (rhs.Intrinsic n args at) cond) = true
needs_row (StmtKind-F.If c a b) = true
needs_row (StmtKind-F.While p c b) = true
needs_row (StmtKind-F.For i from down to b) = false
needs_row (StmtKind-F.Mark vs) = false

-- ---- rows
-- a row of the tables is selected: one that matches whichever way comparisons of indices go, of an
-- `if` or `while` its condition
abbrev pub has_row : StmtKind → Bool
has_row k = is_some (pattern_selected k)

-- `d = e`
abbrev pub has_copy : Lval → Expr → Bool
has_copy d e = is_some (pattern_copied d e)

-- ---- the copies of a call, of words alone
abbrev pub is_word_left : Lval → Bool
is_word_left (lval.Var v) = is_word (known_of v)
is_word_left _ = false

abbrev pub word_layer : Expr-F Expr Ty Access Decl Var → Bool
word_layer (Expr-F.Var v) = is_word (known_of v)
word_layer _ = false

abbrev pub is_word_value : Expr → Bool
is_word_value e = word_layer (out-Expr e)

-- a parameter becomes the argument
abbrev pub enters : Lval × Expr → Bool
enters a = not (is_word_left a.0) || has_copy a.0 a.1

-- a left side becomes what the callee gives back; `_` takes nothing
abbrev pub leaves : Expr × Lval → Bool
leaves r = not (is_word_value r.0) || (is_skip r.1 || has_copy r.1 r.0)

abbrev pub has_copies_of_call : Option Callee → List Lval → List Expr → Bool
has_copies_of_call None to args = true
has_copies_of_call (Some g) to args = list_all enters (zip g.entered args) && list_all leaves (zip g.left to)

abbrev pub has_copies : Option Callee → Layer → Bool
has_copies callee (StmtKind-F.Assign to op (rhs.Call n args at) cond) = has_copies_of_call callee to args
has_copies callee _ = true

abbrev pub has_rows : Option Callee → Stmt → Bool
has_rows callee s = (not (needs_row (layer_of s)) || has_row s.kind) && has_copies callee (layer_of s)

-- no row is asked of a statement of which another fault is told
abbrev pub unmatched_places : Option Callee → Bool → Stmt → List Span
unmatched_places callee others s = if others then [] else unless (has_rows callee s) s.span
