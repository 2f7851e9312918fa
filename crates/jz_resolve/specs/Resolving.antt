-- Expressions and statements whose variables have declarations, and in which a constant is its
-- number.
use Rattle.std.specs.Prelude.{ℕ, ℤ, pos, List, map, Option, Some, None, option_map}
use Rattle.jz_tree.specs.Span.{Span}
use Rattle.jz_tree.specs.declared.expr.BinOp.TheVariants as op
use Rattle.jz_tree.specs.declared.expr.Expr.{Expr}
use Rattle.jz_tree.specs.declared.expr.Expr.TheVariants as expr
use Rattle.jz_tree.specs.declared.expr.Ty.{Ty}
use Rattle.jz_tree.specs.declared.expr.Access.{Access}
use Rattle.jz_tree.specs.declared.expr.Decl.{Decl}
use Rattle.jz_tree.specs.declared.expr.Var.{Var}
use Rattle.jz_tree.specs.declared.expr.Expr.TheOpen.{Expr-F, Var-F}
use Rattle.jz_tree.specs.declared.expr.Expr.TheViews.{out-Var, roll-Expr, roll-Ty, roll-Access, roll-Decl, roll-Var}
use Rattle.jz_tree.specs.declared.expr.Expr.TheFolds.{fold-Expr, fold-Access, fold-Var}
use Rattle.jz_tree.specs.declared.stmt.Lval.{Lval}
use Rattle.jz_tree.specs.declared.stmt.Lval.TheVariants as lval
use Rattle.jz_tree.specs.declared.stmt.Rhs.{Rhs}
use Rattle.jz_tree.specs.declared.stmt.Rhs.TheVariants as rhs
use Rattle.jz_tree.specs.declared.stmt.Stmt.{Stmt}
use Rattle.jz_tree.specs.declared.stmt.StmtKind.{StmtKind}
use Rattle.jz_tree.specs.declared.stmt.StmtKind.TheOpen.{StmtKind-F}
use Rattle.jz_tree.specs.declared.stmt.StmtKind.TheViews.{roll-Stmt, roll-StmtKind}
use Rattle.jz_tree.specs.declared.stmt.StmtKind.TheFolds.{fold-Stmt, fold-StmtKind}
use Rattle.jz_type_names.specs.Scopes.{Name, name_of}

-- what stands for a constant: its number; for one that has none a division by zero, which has none
-- either
abbrev pub number_at : Span → Option ℤ → Expr
number_at at (Some n) = expr.Num n at
number_at at None = expr.Bin op.Div (expr.Num (pos 1) at) (expr.Num (pos 0) at) at

-- a constant becomes what stands for it, any other name a variable
abbrev pub number_or : Option (Option ℤ) → Var → Expr
number_or None v = expr.Var v
number_or (Some n) v = number_at (out-Var v).span n

-- declaration: what is declared of a name; number: of a name that is a constant's where it stands
-- the number, if that has one
module _ (declaration : List ℕ → Option Decl) (number : Name → Option (Option ℤ)) where
  abbrev pub var_step : Var-F Expr Ty Access Decl Var → Var
  var_step v = roll-Var (record v { decl = declaration v.name })

  abbrev pub expr_step : Expr-F Expr Ty Access Decl Var → Expr
  expr_step (Expr-F.Var v) = number_or (number (name_of v)) v
  expr_step e = roll-Expr e

  abbrev pub resolved_expr : Expr → Expr
  resolved_expr = fold-Expr _ _ _ _ _ expr_step roll-Ty roll-Access roll-Decl var_step

  abbrev pub resolved_access : Access → Access
  resolved_access = fold-Access _ _ _ _ _ expr_step roll-Ty roll-Access roll-Decl var_step

  abbrev pub resolved_var : Var → Var
  resolved_var = fold-Var _ _ _ _ _ expr_step roll-Ty roll-Access roll-Decl var_step

  abbrev pub resolved_lval : Lval → Lval
  resolved_lval (lval.Skip at) = lval.Skip at
  resolved_lval (lval.Var v) = lval.Var (resolved_var v)
  resolved_lval (lval.Cell v at) = lval.Cell (resolved_var v) (resolved_expr at)
  resolved_lval (lval.Store a) = lval.Store (resolved_access a)

  abbrev pub resolved_rhs : Rhs → Rhs
  resolved_rhs (rhs.Value e) = rhs.Value (resolved_expr e)
  resolved_rhs (rhs.Call n args at) = rhs.Call n (map resolved_expr args) at
  resolved_rhs (rhs.Intrinsic n args at) = rhs.Intrinsic n (map resolved_expr args) at

  abbrev pub kind_step : StmtKind-F StmtKind Stmt → StmtKind
  kind_step (StmtKind-F.Assign to op from cond) =
      roll-StmtKind (StmtKind-F.Assign
      (map resolved_lval to) op (resolved_rhs from) (option_map resolved_expr cond))
  kind_step (StmtKind-F.If c a b) = roll-StmtKind (StmtKind-F.If (resolved_expr c) a b)
  kind_step (StmtKind-F.While p c b) = roll-StmtKind (StmtKind-F.While p (resolved_expr c) b)
  kind_step (StmtKind-F.For i from down to b) =
      roll-StmtKind (StmtKind-F.For
      (resolved_var i) (resolved_expr from) down (resolved_expr to) b)
  kind_step (StmtKind-F.Mark vs) = roll-StmtKind (StmtKind-F.Mark (map resolved_var vs))

  abbrev pub resolved_stmt : Stmt → Stmt
  resolved_stmt = fold-Stmt _ _ kind_step roll-Stmt

  abbrev pub resolved_kind : StmtKind → StmtKind
  resolved_kind = fold-StmtKind _ _ kind_step roll-Stmt

-- ---- with all that is known of names as one value
-- what is declared of each name, and of each that is a constant's where it stands its number, if
-- that has one
pub record KnownNames : Type 0 where
  pub declaration : List ℕ → Option Decl
  pub number : Name → Option (Option ℤ)

abbrev pub expr_with : KnownNames → Expr → Expr
expr_with k = resolved_expr k.declaration k.number

abbrev pub var_with : KnownNames → Var → Var
var_with k = resolved_var k.declaration k.number

abbrev pub stmt_with : KnownNames → Stmt → Stmt
stmt_with k = resolved_stmt k.declaration k.number
