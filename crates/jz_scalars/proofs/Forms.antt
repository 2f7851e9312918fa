-- An expression of each form with scalars.
use Rattle.std.proofs.Common.{◌≡◌, ℕ, ℤ, Bool, Option, Some, None, ap, sym, ◌∙◌, refl}
use Rattle.jz_tree.specs.Span.{Span}
use Rattle.jz_tree.specs.Size.{Size}
use Rattle.jz_tree.specs.declared.expr.BinOp.{BinOp}
use Rattle.jz_tree.specs.declared.expr.Expr.{Expr}
use Rattle.jz_tree.specs.declared.expr.Expr.TheVariants as expr
use Rattle.jz_tree.specs.declared.expr.Access.{Access}
use Rattle.jz_tree.specs.declared.expr.Var.{Var}
use Rattle.jz_tree.specs.declared.expr.Expr.TheOpen.{Expr-F}
use Rattle.jz_tree.specs.declared.expr.Expr.TheViews.{roll-Access, out-Access, roll-out-Access}
use Rattle.jz_tree.specs.declared.stmt.Lval.TheVariants as lval
use Rattle.jz_arrays.specs.Cells.{scalar, size_at, cell_in, cell_or, left_or, with_scalars, access_with_scalars}
use Rattle.jz_arrays.proofs.Reading.{in_is, access_in_is}
use Rattle.jz_scalars.specs.declared.cells.RegisterCell.{RegisterCell}
use Rattle.jz_scalars.specs.InnerCells.{register_cell}

pub in_num : (n : ℤ) (at : Span) → with_scalars (expr.Num n at) ≡ expr.Num n at
in_num n at = ap with_scalars (sym (expr.rolls-Num n at)) ∙ in_is (Expr-F.Num n at) ∙ expr.rolls-Num n at

pub in_bool : (c : Bool) (at : Span) → with_scalars (expr.Bool c at) ≡ expr.Bool c at
in_bool c at = ap with_scalars (sym (expr.rolls-Bool c at)) ∙ in_is (Expr-F.Expr::Bool c at) ∙ expr.rolls-Bool c at

pub in_var : (v : Var) → with_scalars (expr.Var v) ≡ expr.Var v
in_var v = ap with_scalars (sym (expr.rolls-Var v)) ∙ in_is (Expr-F.Var v) ∙ expr.rolls-Var v

pub in_cell : (v : Var) (i : Expr) → with_scalars (expr.Cell v i) ≡ cell_or v (with_scalars i) (size_at v) (cell_in v i)
in_cell v i = ap with_scalars (sym (expr.rolls-Cell v i)) ∙ in_is (Expr-F.Cell v i)

pub in_load : (a : Access) → with_scalars (expr.Load a) ≡ expr.Load (access_with_scalars a)
in_load a = ap with_scalars (sym (expr.rolls-Load a)) ∙ in_is (Expr-F.Load a) ∙ expr.rolls-Load (access_with_scalars a)

pub in_neg : (e : Expr) (at : Span) → with_scalars (expr.Neg e at) ≡ expr.Neg (with_scalars e) at
in_neg e at = ap with_scalars (sym (expr.rolls-Neg e at)) ∙ in_is (Expr-F.Neg e at) ∙ expr.rolls-Neg (with_scalars e) at

pub in_not : (e : Expr) (at : Span) → with_scalars (expr.Not e at) ≡ expr.Not (with_scalars e) at
in_not e at = ap with_scalars (sym (expr.rolls-Not e at)) ∙ in_is (Expr-F.Not e at) ∙ expr.rolls-Not (with_scalars e) at

pub in_cast : (z : Size) (s : Bool) (e : Expr) (at : Span) → with_scalars (expr.Cast z s e at) ≡ expr.Cast z s (with_scalars e) at
in_cast z s e at = ap with_scalars (sym (expr.rolls-Cast z s e at)) ∙ in_is (Expr-F.Cast z s e at) ∙ expr.rolls-Cast z s (with_scalars e) at

pub in_bin : (op : BinOp) (a b : Expr) (at : Span) → with_scalars (expr.Bin op a b at) ≡ expr.Bin op (with_scalars a) (with_scalars b) at
in_bin op a b at = ap with_scalars (sym (expr.rolls-Bin op a b at)) ∙ in_is (Expr-F.Bin op a b at) ∙ expr.rolls-Bin op (with_scalars a) (with_scalars b) at

pub in_access : (a : Access) → access_with_scalars a ≡ roll-Access (record { size = (out-Access a).size; at = with_scalars (out-Access a).at; unaligned = (out-Access a).unaligned; span = (out-Access a).span })
in_access a = ap access_with_scalars (sym (roll-out-Access a)) ∙ access_in_is (out-Access a)

-- ---- cells

same_cell : (a b : RegisterCell) → Some a ≡ Some b → a ≡ b
same_cell a b e = cc

-- an access that becomes a scalar, and one that stays
pub scalar_access : (v : Var) (i : Expr) (z : Option Size) (n : Option ℕ) (c : RegisterCell) → register_cell z n ≡ Some c → cell_or v i z n ≡ expr.Var (scalar v c.size c.number)
scalar_access v i None n c e = absurd cc
scalar_access v i (Some z) None c e = absurd cc
scalar_access v i (Some z) (Some n) c e = expr.rolls-Var (scalar v z n) ∙ ap (λ (k : RegisterCell). expr.Var (scalar v k.size k.number)) (same_cell _ c e)

pub cell_access : (v : Var) (i : Expr) (z : Option Size) (n : Option ℕ) → register_cell z n ≡ None → cell_or v i z n ≡ expr.Cell v i
cell_access v i None n e = expr.rolls-Cell v i
cell_access v i (Some z) None e = expr.rolls-Cell v i
cell_access v i (Some z) (Some n) e = absurd cc

pub scalar_left : (v : Var) (i : Expr) (z : Option Size) (n : Option ℕ) (c : RegisterCell) → register_cell z n ≡ Some c → left_or v i z n ≡ lval.Var (scalar v c.size c.number)
scalar_left v i None n c e = absurd cc
scalar_left v i (Some z) None c e = absurd cc
scalar_left v i (Some z) (Some n) c e = ap (λ (k : RegisterCell). lval.Var (scalar v k.size k.number)) (same_cell _ c e)

pub cell_left : (v : Var) (i : Expr) (z : Option Size) (n : Option ℕ) → register_cell z n ≡ None → left_or v i z n ≡ lval.Cell v (with_scalars i)
cell_left v i None n e = refl
cell_left v i (Some z) None e = refl
cell_left v i (Some z) (Some n) e = absurd cc
