-- An index is a number just where it has a value.
use Rattle.std.proofs.Common.{◌≡◌, ℤ, false, Option, Some, None, refl, ap, subst}
use Rattle.std.specs.Prelude.{is_some}
use Rattle.jz_tree.specs.declared.expr.Expr.{Expr}
use Rattle.jz_tree.specs.declared.expr.Expr.TheOpen.{Expr-F}
use Rattle.jz_tree.specs.declared.expr.Expr.TheViews.{out-Expr, roll-Expr, roll-out-Expr}
use Rattle.jz_tree.specs.declared.expr.Expr.TheFolds.{fold-roll-Expr, fold-Access, fold-Var, map-Expr}
use Rattle.jz_tree.specs.declared.expr.Access.{Access}
use Rattle.jz_tree.specs.declared.expr.Var.{Var}
use Rattle.jz_tree.specs.Span.{Span}
use Rattle.jz_integers.specs.declared.constant.Constant.{Constant}
use Rattle.jz_integers.specs.Integers.{value_step, the_number, written_number}
use Rattle.jz_select.specs.Trees.{Named, named_step, Tree, Number, Truth, Name, CellOf, Loaded, Minus, Opposite, CastTo, Both, tree_step, tree_of, tree_eq, numbered_tree, index_of}
use Rattle.jz_select.specs.InnerLayers.{indices_eq}
use Rattle.jz_select.specs.Places.{Layer, is_number}

abbrev var_named : Var → Named
var_named = fold-Var Tree (Unit {0}) Tree (Unit {0}) Named tree_step (λ t. tt) (λ a. a.at) (λ d. tt) named_step

abbrev at_tree : Access → Tree
at_tree = fold-Access Tree (Unit {0}) Tree (Unit {0}) Named tree_step (λ t. tt) (λ a. a.at) (λ d. tt) named_step

abbrev tree_layer : Layer → Tree
tree_layer y = tree_step (map-Expr _ _ _ _ _ Tree (Unit {0}) Tree (Unit {0}) Named tree_of (λ t. tt) at_tree (λ d. tt) var_named y)

-- a tree that is a number is one that has a value
abbrev Apart : Expr → Type 0
Apart e = written_number e ≡ None → is_number (tree_of e) ≡ false

value_of_number : (n : ℤ) (at : Span) → written_number (roll-Expr (Expr-F.Num n at)) ≡ Some n
value_of_number n at = ap the_number (fold-roll-Expr (Option Constant) (Unit {0}) (Unit {0}) (Unit {0}) (Option ℤ) value_step (λ t. tt) (λ a. tt) (λ d. tt) (λ v. None) (Expr-F.Num n at))

tree_is : (y : Layer) → tree_of (roll-Expr y) ≡ tree_layer y
tree_is y = fold-roll-Expr Tree (Unit {0}) Tree (Unit {0}) Named tree_step (λ t. tt) (λ a. a.at) (λ d. tt) named_step y

no_number : (n : ℤ) (w : Option ℤ) → w ≡ Some n → w ≡ None → ⊥
no_number n w e h = cc

layer_apart : (y : Layer) → Apart (roll-Expr y)
layer_apart (Expr-F.Num n at) e = absurd (no_number n (written_number (roll-Expr (Expr-F.Num n at))) (value_of_number n at) e)
layer_apart (Expr-F.Expr::Bool b at) e = ap is_number (tree_is (Expr-F.Expr::Bool b at))
layer_apart (Expr-F.Var v) e = ap is_number (tree_is (Expr-F.Var v))
layer_apart (Expr-F.Cell v k) e = ap is_number (tree_is (Expr-F.Cell v k))
layer_apart (Expr-F.Load a) e = ap is_number (tree_is (Expr-F.Load a))
layer_apart (Expr-F.Neg a at) e = ap is_number (tree_is (Expr-F.Neg a at))
layer_apart (Expr-F.Not a at) e = ap is_number (tree_is (Expr-F.Not a at))
layer_apart (Expr-F.Cast z s a at) e = ap is_number (tree_is (Expr-F.Cast z s a at))
layer_apart (Expr-F.Bin o a b at) e = ap is_number (tree_is (Expr-F.Bin o a b at))

apart : (e : Expr) → Apart e
apart e = subst Apart (roll-out-Expr e) (layer_apart (out-Expr e))

number_by : (w : Option ℤ) (t : Tree) → (w ≡ None → is_number t ≡ false) → is_number (numbered_tree w t) ≡ is_some w
number_by None t h = h refl
number_by (Some n) t h = refl

pub number_is : (e : Expr) → is_number (index_of e) ≡ is_some (written_number e)
number_is e = number_by (written_number e) (tree_of e) (apart e)

no_left : (t : Tree) (n : ℤ) → is_number t ≡ false → tree_eq t (Number n) ≡ false
no_left (Number m) n h = absurd cc
no_left (Truth b) n h = refl
no_left (Name v) n h = refl
no_left (CellOf v k) n h = refl
no_left (Loaded a) n h = refl
no_left (Minus a) n h = refl
no_left (Opposite a) n h = refl
no_left (CastTo z s a) n h = refl
no_left (Both o a b) n h = refl

no_right : (t : Tree) (n : ℤ) → is_number t ≡ false → tree_eq (Number n) t ≡ false
no_right (Number m) n h = absurd cc
no_right (Truth b) n h = refl
no_right (Name v) n h = refl
no_right (CellOf v k) n h = refl
no_right (Loaded a) n h = refl
no_right (Minus a) n h = refl
no_right (Opposite a) n h = refl
no_right (CastTo z s a) n h = refl
no_right (Both o a b) n h = refl

index_by : (v w : Option ℤ) (s t : Tree) → (v ≡ None → is_number s ≡ false) → (w ≡ None → is_number t ≡ false) → tree_eq (numbered_tree v s) (numbered_tree w t) ≡ indices_eq v w (tree_eq s t)
index_by None None s t h k = refl
index_by None (Some n) s t h k = no_left s n (h refl)
index_by (Some m) None s t h k = no_right t m (k refl)
index_by (Some m) (Some n) s t h k = refl

pub index_is : (e o : Expr) → tree_eq (index_of e) (index_of o) ≡ indices_eq (written_number e) (written_number o) (tree_eq (tree_of e) (tree_of o))
index_is e o = index_by (written_number e) (written_number o) (tree_of e) (tree_of o) (apart e) (apart o)
