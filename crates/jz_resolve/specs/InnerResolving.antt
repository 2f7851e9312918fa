-- What private contracts say of the parts of expressions and statements that are resolved.
use Rattle.jz_tree.specs.declared.expr.Expr.{Expr}
use Rattle.jz_tree.specs.LeftSides.{on_left}
use Rattle.jz_tree.specs.declared.copying.LeftSide.{LeftSide}
use Rattle.jz_tree.specs.declared.expr.Access.{Access}
use Rattle.jz_tree.specs.declared.expr.Var.{Var}
use Rattle.jz_tree.specs.declared.stmt.Lval.{Lval}
use Rattle.jz_tree.specs.declared.stmt.Rhs.{Rhs}
use Rattle.jz_tree.specs.declared.stmt.StmtKind.{StmtKind}
use Rattle.jz_type_names.specs.Scopes.{name_of}
use Rattle.jz_resolve.specs.Resolving.{KnownNames, resolved_access, resolved_lval, resolved_rhs, resolved_kind, number_or, var_with}

abbrev pub access_with : KnownNames → Access → Access
access_with k = resolved_access k.declaration k.number

abbrev pub lval_with : KnownNames → Lval → Lval
lval_with k = resolved_lval k.declaration k.number

abbrev pub rhs_with : KnownNames → Rhs → Rhs
rhs_with k = resolved_rhs k.declaration k.number

abbrev pub kind_with : KnownNames → StmtKind → StmtKind
kind_with k = resolved_kind k.declaration k.number

-- a name that stands in an expression: a constant's as what stands for it, any other as a variable
abbrev pub name_with : KnownNames → Var → Expr
name_with k v = number_or (k.number (name_of v)) (var_with k v)

-- ---- expressions with a long left side
-- the expression that has this left side
abbrev pub whole_of : LeftSide → Expr
whole_of s = on_left s.steps.items s.first
