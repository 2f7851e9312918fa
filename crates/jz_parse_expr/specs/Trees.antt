-- The tree of a phrase, from its parts. An expression has the span of its first token beside it:
-- its own span, but that parentheses round the whole of it count.
use Rattle.std.specs.Prelude.{ℕ, ℤ, List, [], ◌∷◌, Bool, false, Option, Some, None}
use Rattle.jz_tree.specs.Span.{Span}
use Rattle.jz_tree.specs.Size.{Size}
use Rattle.jz_tree.specs.declared.expr.Expr.{Expr}
use Rattle.jz_tree.specs.declared.expr.Expr.TheVariants as e
use Rattle.jz_tree.specs.declared.expr.Var.{Var}
use Rattle.jz_tree.specs.declared.expr.Access.{Access}
use Rattle.jz_tree.specs.declared.expr.Expr.TheViews.{roll-Var, roll-Access}
use Rattle.jz_tree.specs.declared.expr.BinOp.{BinOp}

-- a variable where it is used
abbrev pub used_of : List ℕ × Span → Var
used_of n = roll-Var (record { name = n.0; copy = 0; cell = None; decl = None; span = n.1 })

abbrev pub number_expr : ℤ × Span → Span × Expr
number_expr n = (n.1, e.Num n.0 n.1)

abbrev pub bool_expr : Bool → Span → Span × Expr
bool_expr b s = (s, e.Bool b s)

-- a variable, or the cell of an array
abbrev pub name_expr : (List ℕ × Span) × Option Expr → Span × Expr
name_expr (n, None) = (n.1, e.Var (used_of n))
name_expr (n, Some i) = (n.1, e.Cell (used_of n) i)

abbrev pub neg_expr : Span × (Span × Expr) → Span × Expr
neg_expr p = (p.0, e.Neg p.1.1 p.0)

abbrev pub not_expr : Span × (Span × Expr) → Span × Expr
not_expr p = (p.0, e.Not p.1.1 p.0)

-- an access, by its first token, of the size that is written, if one is
abbrev pub access_of : Span × (Option Size × Expr) → Access
access_of p = roll-Access (record { size = p.1.0; at = p.1.1; unaligned = false; span = p.0 })

abbrev pub load_expr : Span × (Option Size × Expr) → Span × Expr
load_expr p = (p.0, e.Load (access_of p))

-- the cast of a value, by where its "(" stands
abbrev pub cast_expr : Span → Size × Bool → Expr → Span × Expr
cast_expr s to a = (s, e.Cast to.0 to.1 a s)

-- operators of one level go from the left
abbrev pub chain : Span × Expr → List (BinOp × (Span × Expr)) → Span × Expr
chain a [] = a
chain a (p ∷ ps) = chain (a.0, e.Bin p.0 a.1 p.1.1 a.0) ps

-- what stands in parentheses that an expression begins with: the size of an access with its address
-- behind them, a cast with its operand behind them, or an expression
pub data Group : Type 0 where
  At : Size → Expr → Group
  As : Size × Bool → Expr → Group
  Plain : Expr → Group

-- and its tree, by where the "(" stands
abbrev pub group_expr : Span → Group → Span × Expr
group_expr s (At z a) = load_expr (s, (Some z, a))
group_expr s (As to a) = cast_expr s to a
group_expr s (Plain a) = (s, a)
