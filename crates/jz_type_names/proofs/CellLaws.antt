-- The cells in an expression, one layer at a time.
use Rattle.std.proofs.Common.{◌≡◌, [], ◌∷◌, ◌++◌, refl, sym, ap, ◌∙◌, append-nil}
use Rattle.std.specs.Prelude.{ℤ, Bool}
use Rattle.jz_tree.specs.Span.{Span}
use Rattle.jz_tree.specs.Size.{Size}
use Rattle.jz_tree.specs.declared.expr.BinOp.{BinOp}
use Rattle.jz_tree.specs.declared.expr.Expr.TheVariants as expr
use Rattle.jz_tree.specs.declared.expr.Expr.{Expr}
use Rattle.jz_tree.specs.declared.expr.Ty.{Ty}
use Rattle.jz_tree.specs.declared.expr.Access.{Access}
use Rattle.jz_tree.specs.declared.expr.Decl.{Decl}
use Rattle.jz_tree.specs.declared.expr.Var.{Var}
use Rattle.jz_tree.specs.declared.expr.Expr.TheOpen.{Expr-F}
use Rattle.jz_tree.specs.declared.expr.Expr.TheViews.{roll-Expr, out-Access, roll-out-Access}
use Rattle.jz_tree.specs.declared.expr.Expr.TheFolds.{para-Access, para-roll-Expr, para-roll-Access, map-Expr}
use Rattle.jz_type_names.specs.Parts.{Cells, cells_step, cells_in}

cells_at : Access → Cells
cells_at = para-Access Cells (Unit {0}) Cells (Unit {0}) (Unit {0}) cells_step (λ t. tt) (λ a. a.at.1) (λ d. tt) (λ v. tt)

at_is : (a : Access) → cells_at a ≡ cells_in (out-Access a).at
unfolding cells_at
at_is a = ap cells_at (sym (roll-out-Access a)) ∙ para-roll-Access Cells (Unit {0}) Cells (Unit {0}) (Unit {0}) cells_step (λ t. tt) (λ a. a.at.1) (λ d. tt) (λ v. tt) (out-Access a)

abbrev pub cells_layer : Expr-F Expr Ty Access Decl Var → Cells
cells_layer (Expr-F.Num n at) = []
cells_layer (Expr-F.Expr::Bool b at) = []
cells_layer (Expr-F.Var v) = []
cells_layer (Expr-F.Cell v i) = (v, i) ∷ cells_in i
cells_layer (Expr-F.Load a) = cells_in (out-Access a).at
cells_layer (Expr-F.Neg a at) = cells_in a
cells_layer (Expr-F.Not a at) = cells_in a
cells_layer (Expr-F.Cast z s a at) = cells_in a
cells_layer (Expr-F.Bin o a b at) = cells_in a ++ cells_in b

abbrev paired : Expr-F Expr Ty Access Decl Var → Expr-F (Expr × Cells) (Ty × Unit {0}) (Access × Cells) (Decl × Unit {0}) (Var × Unit {0})
paired x = map-Expr _ _ _ _ _ _ _ _ _ _ (λ y. (y, cells_in y)) (λ y. (y, tt)) (λ y. (y, cells_at y)) (λ y. (y, tt)) (λ y. (y, tt)) x

step_is : (x : Expr-F Expr Ty Access Decl Var) → cells_step (paired x) ≡ cells_layer x
step_is (Expr-F.Num n at) = refl
step_is (Expr-F.Expr::Bool c at) = refl
step_is (Expr-F.Var v) = refl
step_is (Expr-F.Cell v e) = refl
step_is (Expr-F.Load a) = at_is a
step_is (Expr-F.Neg a at) = refl
step_is (Expr-F.Not a at) = refl
step_is (Expr-F.Cast size signed a at) = refl
step_is (Expr-F.Bin o a c at) = refl

layer_is : (x : Expr-F Expr Ty Access Decl Var) → cells_in (roll-Expr x) ≡ cells_layer x
unfolding cells_at
layer_is x = para-roll-Expr Cells (Unit {0}) Cells (Unit {0}) (Unit {0}) cells_step (λ t. tt) (λ a. a.at.1) (λ d. tt) (λ v. tt) x ∙ step_is x

by_layer : (e : Expr) (x : Expr-F Expr Ty Access Decl Var) → roll-Expr x ≡ e → cells_in e ≡ cells_layer x
by_layer e x h = ap cells_in (sym h) ∙ layer_is x

pub cells_num : (n : ℤ) (s : Span) → cells_in (expr.Num n s) ≡ []
cells_num n s = by_layer _ _ (expr.rolls-Num n s)

pub cells_bool : (b : Bool) (s : Span) → cells_in (expr.Bool b s) ≡ []
cells_bool b s = by_layer _ _ (expr.rolls-Bool b s)

pub cells_var : (v : Var) → cells_in (expr.Var v) ≡ []
cells_var v = by_layer _ _ (expr.rolls-Var v)

pub cells_cell : (v : Var) (i : Expr) → cells_in (expr.Cell v i) ≡ (v, i) ∷ (cells_in i ++ [])
cells_cell v i = by_layer _ _ (expr.rolls-Cell v i) ∙ ap (λ l. (v, i) ∷ l) (sym (append-nil (cells_in i)))

pub cells_load : (a : Access) → cells_in (expr.Load a) ≡ cells_in (out-Access a).at
cells_load a = by_layer _ _ (expr.rolls-Load a)

pub cells_neg : (e : Expr) (s : Span) → cells_in (expr.Neg e s) ≡ cells_in e
cells_neg e s = by_layer _ _ (expr.rolls-Neg e s)

pub cells_not : (e : Expr) (s : Span) → cells_in (expr.Not e s) ≡ cells_in e
cells_not e s = by_layer _ _ (expr.rolls-Not e s)

pub cells_cast : (z : Size) (b : Bool) (e : Expr) (s : Span) → cells_in (expr.Cast z b e s) ≡ cells_in e
cells_cast z b e s = by_layer _ _ (expr.rolls-Cast z b e s)

pub cells_bin : (o : BinOp) (a b : Expr) (s : Span) → cells_in (expr.Bin o a b s) ≡ cells_in a ++ (cells_in b ++ [])
cells_bin o a b s = by_layer _ _ (expr.rolls-Bin o a b s) ∙ ap (λ l. cells_in a ++ l) (sym (append-nil _))
