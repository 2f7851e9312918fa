-- Expressions by their forms: what they look like, and whether they are inline.
use Rattle.std.proofs.Common.{◌≡◌, ℤ, Bool, true, false, ◌&&◌, sym, ap, ◌∙◌}
use Rattle.jz_tree.specs.Span.{Span}
use Rattle.jz_tree.specs.declared.expr.Expr.{Expr}
use Rattle.jz_tree.specs.declared.expr.Expr.TheVariants as expr
use Rattle.jz_tree.specs.declared.expr.Expr.TheOpen.{Expr-F}
use Rattle.jz_tree.specs.declared.expr.Expr.TheViews.{out-Expr, roll-Expr, roll-out-Expr}
use Rattle.jz_tree.specs.declared.expr.Expr.TheFolds.{fold-Ty, fold-Access, fold-Decl, fold-Var, fold-roll-Expr, map-Expr}
use Rattle.jz_tree.specs.declared.expr.Access.{Access}
use Rattle.jz_tree.specs.declared.expr.Var.{Var}
use Rattle.jz_tree.specs.declared.expr.BinOp.{BinOp}
use Rattle.jz_tree.specs.Size.{Size}
use Rattle.jz_type_names.specs.declared.kinds.Kind as scope
use Rattle.jz_type_names.specs.declared.kinds.Declared.{Declared}
use Rattle.jz_type_names.specs.Kinds.{Known, kind_step, declared_step, known_step, inline_step, is_inline, known_of, is_inline_int}
use Rattle.jz_select.specs.Look.{Look, look_of, is_inline_var}
use Rattle.jz_row_laws.proofs.Fixed.{Layer, look_layer, look_is, var_looked, var_known}
use Rattle.jz_homes.specs.Homes.{Homes}
use Rattle.jz_total_rows.specs.Expanded.{HasHome, a_word, a_flag, a_scalar, an_array}

pub look_at : (e : Expr) (l : Layer) → out-Expr e ≡ l → look_of e ≡ look_layer l
look_at e l s = ap look_of (sym (roll-out-Expr e)) ∙ (look_is (out-Expr e) ∙ ap look_layer s)

-- a test of what an expression looks like, by its outermost form
pub look_test : (test : Look → Bool) (e : Expr) (l : Layer) → out-Expr e ≡ l → test (look_of e) ≡ true → test (look_layer l) ≡ true
look_test test e l s h = sym (ap test (look_at e l s)) ∙ h

-- ---- numbers and bools are inline
pub number_inline : (i : ℤ) (at : Span) → is_inline (expr.Num i at) ≡ true
number_inline i at = ap is_inline (sym (expr.rolls-Num i at)) ∙ fold-roll-Expr Bool scope.Kind Bool Declared Known inline_step kind_step (λ a. a.at) declared_step known_step (Expr-F.Num i at)

pub bool_inline : (b : Bool) (at : Span) → is_inline (expr.Bool b at) ≡ true
bool_inline b at = ap is_inline (sym (expr.rolls-Bool b at)) ∙ fold-roll-Expr Bool scope.Kind Bool Declared Known inline_step kind_step (λ a. a.at) declared_step known_step (Expr-F.Expr::Bool b at)

-- ---- other forms are where their parts are
inline_at : (e : Expr) (l : Layer) → roll-Expr l ≡ e → is_inline e ≡ inline_step (map-Expr _ _ _ _ _ Bool scope.Kind Bool Declared Known is_inline (fold-Ty Bool scope.Kind Bool Declared Known inline_step kind_step (λ a. a.at) declared_step known_step) (fold-Access Bool scope.Kind Bool Declared Known inline_step kind_step (λ a. a.at) declared_step known_step) (fold-Decl Bool scope.Kind Bool Declared Known inline_step kind_step (λ a. a.at) declared_step known_step) (fold-Var Bool scope.Kind Bool Declared Known inline_step kind_step (λ a. a.at) declared_step known_step) l)
inline_at e l s = ap is_inline (sym s) ∙ fold-roll-Expr Bool scope.Kind Bool Declared Known inline_step kind_step (λ a. a.at) declared_step known_step l

pub minus_inline : (a : Expr) (at : Span) → is_inline (expr.Neg a at) ≡ is_inline a
minus_inline a at = inline_at (expr.Neg a at) (Expr-F.Neg a at) (expr.rolls-Neg a at)

pub denial_inline : (a : Expr) (at : Span) → is_inline (expr.Not a at) ≡ is_inline a
denial_inline a at = inline_at (expr.Not a at) (Expr-F.Not a at) (expr.rolls-Not a at)

pub cast_inline : (z : Size) (s : Bool) (a : Expr) (at : Span) → is_inline (expr.Cast z s a at) ≡ false
cast_inline z s a at = inline_at (expr.Cast z s a at) (Expr-F.Cast z s a at) (expr.rolls-Cast z s a at)

pub two_inline : (o : BinOp) (a b : Expr) (at : Span) → is_inline (expr.Bin o a b at) ≡ (is_inline a && is_inline b)
two_inline o a b at = inline_at (expr.Bin o a b at) (Expr-F.Bin o a b at) (expr.rolls-Bin o a b at)

pub cell_inline : (v : Var) (i : Expr) → is_inline (expr.Cell v i) ≡ false
cell_inline v i = inline_at (expr.Cell v i) (Expr-F.Cell v i) (expr.rolls-Cell v i)

pub load_inline : (a : Access) → is_inline (expr.Load a) ≡ false
load_inline a = inline_at (expr.Load a) (Expr-F.Load a) (expr.rolls-Load a)

-- ---- a variable with a home is not
pub home_looks : (home : Homes) (v : Var) → HasHome home v → is_inline_var (known_of v) ≡ false
home_looks home v (a_word z n d k h) = ap is_inline_var d
home_looks home v (a_flag n d k h) = ap is_inline_var d
home_looks home v (a_scalar z w d k h) = ap is_inline_var d
home_looks home v (an_array z n w d h) = ap is_inline_var d

pub home_not_inline : (home : Homes) (v : Var) → HasHome home v → is_inline_int (known_of v) ≡ false
home_not_inline home v (a_word z n d k h) = ap is_inline_int d
home_not_inline home v (a_flag n d k h) = ap is_inline_int d
home_not_inline home v (a_scalar z w d k h) = ap is_inline_int d
home_not_inline home v (an_array z n w d h) = ap is_inline_int d

pub looked_not_inline : (home : Homes) (v : Var) → HasHome home v → is_inline_var (var_looked v) ≡ false
looked_not_inline home v h = ap is_inline_var (var_known v) ∙ home_looks home v h
