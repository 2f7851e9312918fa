-- How a destination and an operand meet is told by their trees.
use Rattle.std.proofs.Common.{◌≡◌, ℤ, ◌&&◌, ◌||◌, Option, Some, None, refl, sym, ap, ap₂, ◌∙◌, subst, if◌then◌else◌}
use Rattle.jz_tree.specs.declared.expr.Expr.{Expr}
use Rattle.jz_tree.specs.declared.expr.Ty.{Ty}
use Rattle.jz_tree.specs.declared.expr.Access.{Access}
use Rattle.jz_tree.specs.declared.expr.Decl.{Decl}
use Rattle.jz_tree.specs.declared.expr.Var.{Var}
use Rattle.jz_tree.specs.declared.expr.Expr.TheOpen.{Expr-F}
use Rattle.jz_tree.specs.declared.expr.Expr.TheViews.{out-Expr, out-Access, out-Var, roll-Expr, roll-Access, roll-out-Expr, roll-out-Access, roll-out-Var}
use Rattle.jz_tree.specs.declared.expr.Expr.TheFolds.{fold-Access, fold-Var, fold-roll-Expr, fold-roll-Access, fold-roll-Var, ind-Expr, map-Expr}
use Rattle.jz_tree.specs.declared.stmt.Lval.{Lval}
use Rattle.jz_tree.specs.declared.stmt.Lval.TheVariants as lval
use Rattle.jz_integers.specs.declared.constant.Constant.{Constant}
use Rattle.jz_integers.specs.Integers.{KnownNumbers, value_step, inline_value, number, truth, joined, minus, opposite, the_number}
use Rattle.jz_select.specs.Trees.{Named, named_step, named_variable, names_eq, Tree, Number, Truth, Name, CellOf, Loaded, Minus, Opposite, CastTo, Both, tree_step, tree_of, numbered_tree, index_of}
use Rattle.jz_select.specs.Places.{Layer, Answers, one_cell, same_index, touches, elsewhere, one_or_apart, var_layer_meets, cell_layer_meets, store_layer_meets, meeting_of}
use Rattle.jz_select.specs.InnerLayers.{touches_layer}
use Rattle.jz_select.proofs.Uses.{layer_is}
use Rattle.jz_meetings.specs.Meetings.{tree_value, no_values, index_tree, stands, Whole, CellAt, AtMemory, place_of, meets}
use Rattle.jz_meetings.specs.KeptMeetings.{MeetingsAreOfTrees}

-- ---- trees by their forms
abbrev var_named : Var → Named
var_named = fold-Var Tree (Unit {0}) Tree (Unit {0}) Named tree_step (λ t. tt) (λ a. a.at) (λ d. tt) named_step

abbrev at_tree : Access → Tree
at_tree = fold-Access Tree (Unit {0}) Tree (Unit {0}) Named tree_step (λ t. tt) (λ a. a.at) (λ d. tt) named_step

abbrev pub tree_form : Layer → Tree
tree_form (Expr-F.Num n at) = Number n
tree_form (Expr-F.Expr::Bool b at) = Truth b
tree_form (Expr-F.Var v) = Name (named_variable v)
tree_form (Expr-F.Cell v i) = CellOf (named_variable v) (tree_of i)
tree_form (Expr-F.Load a) = Loaded (tree_of (out-Access a).at)
tree_form (Expr-F.Neg a at) = Minus (tree_of a)
tree_form (Expr-F.Not a at) = Opposite (tree_of a)
tree_form (Expr-F.Cast z signed a at) = CastTo z signed (tree_of a)
tree_form (Expr-F.Bin o a b at) = Both o (tree_of a) (tree_of b)

var_is : (v : Var) → var_named v ≡ named_variable v
var_is v = ap var_named (sym (roll-out-Var v)) ∙ fold-roll-Var Tree (Unit {0}) Tree (Unit {0}) Named tree_step (λ t. tt) (λ a. a.at) (λ d. tt) named_step (out-Var v)

at_is : (a : Access) → at_tree a ≡ tree_of (out-Access a).at
at_is a = ap at_tree (sym (roll-out-Access a)) ∙ fold-roll-Access Tree (Unit {0}) Tree (Unit {0}) Named tree_step (λ t. tt) (λ a. a.at) (λ d. tt) named_step (out-Access a)

abbrev tree_layer : Layer → Tree
tree_layer y = tree_step (map-Expr _ _ _ _ _ Tree (Unit {0}) Tree (Unit {0}) Named tree_of (λ t. tt) at_tree (λ d. tt) var_named y)

form_is : (y : Layer) → tree_layer y ≡ tree_form y
form_is (Expr-F.Num n at) = refl
form_is (Expr-F.Expr::Bool b at) = refl
form_is (Expr-F.Var v) = ap Name (var_is v)
form_is (Expr-F.Cell v i) = ap (λ n. CellOf n (tree_of i)) (var_is v)
form_is (Expr-F.Load a) = ap Loaded (at_is a)
form_is (Expr-F.Neg a at) = refl
form_is (Expr-F.Not a at) = refl
form_is (Expr-F.Cast z signed a at) = refl
form_is (Expr-F.Bin o a b at) = refl

pub tree_rolled : (y : Layer) → tree_of (roll-Expr y) ≡ tree_form y
tree_rolled y = fold-roll-Expr Tree (Unit {0}) Tree (Unit {0}) Named tree_step (λ t. tt) (λ a. a.at) (λ d. tt) named_step y ∙ form_is y

pub tree_out : (e : Expr) → tree_of e ≡ tree_form (out-Expr e)
tree_out e = ap tree_of (sym (roll-out-Expr e)) ∙ tree_rolled (out-Expr e)

-- ---- what holds of each form holds of all expressions
module _ (Q : Expr → Type 0) where
  abbrev Parts : Type 0
  Parts = Expr-F ((e : Expr) × Q e) (Ty × Unit {0}) ((a : Access) × Q (out-Access a).at) (Decl × Unit {0}) (Var × Unit {0})

  abbrev bare : Parts → Layer
  bare y = map-Expr _ _ _ _ _ Expr Ty Access Decl Var (λ e. e.0) (λ e. e.0) (λ e. e.0) (λ e. e.0) (λ e. e.0) y

  by_forms : ((y : Parts) → Q (roll-Expr (bare y))) → (e : Expr) → Q e
  by_forms f =
      ind-Expr Q (λ t. Unit {0}) (λ a. Q (out-Access a).at) (λ d. Unit {0}) (λ v. Unit {0})
      (λ x y is. subst (λ z. Q (roll-Expr z)) is (f y))
      (λ x y is. tt)
      (λ x y is. subst (λ z. Q (out-Access (roll-Access z)).at) is y.at.1)
      (λ x y is. tt)
      (λ x y is. tt)

-- ---- values
module _ (k : KnownNumbers) where
  abbrev number_of_var : Var → Option ℤ
  number_of_var = fold-Var _ _ _ _ _ value_step (λ t. tt) (λ a. tt) (λ d. tt) (λ v. k v.name v.copy)

  number_at : (v : Var) → number_of_var v ≡ k (out-Var v).name (out-Var v).copy
  number_at v = ap number_of_var (sym (roll-out-Var v)) ∙ fold-roll-Var _ _ _ _ _ value_step (λ t. tt) (λ a. tt) (λ d. tt) (λ v. k v.name v.copy) (out-Var v)

  abbrev value_form : Layer → Option Constant
  value_form (Expr-F.Num n at) = number (Some n)
  value_form (Expr-F.Expr::Bool b at) = truth b
  value_form (Expr-F.Var v) = number (k (out-Var v).name (out-Var v).copy)
  value_form (Expr-F.Cell v i) = None
  value_form (Expr-F.Load a) = None
  value_form (Expr-F.Neg a at) = minus (inline_value k a)
  value_form (Expr-F.Not a at) = opposite (inline_value k a)
  value_form (Expr-F.Cast z signed a at) = None
  value_form (Expr-F.Bin o a b at) = joined o (inline_value k a) (inline_value k b)

  abbrev value_layer : Layer → Option Constant
  value_layer x = value_step (map-Expr _ _ _ _ _ (Option Constant) (Unit {0}) (Unit {0}) (Unit {0}) (Option ℤ) (inline_value k) (λ t. tt) (λ a. tt) (λ d. tt) number_of_var x)

  value_form_is : (y : Layer) → value_layer y ≡ value_form y
  value_form_is (Expr-F.Num n at) = refl
  value_form_is (Expr-F.Expr::Bool b at) = refl
  value_form_is (Expr-F.Var v) = ap number (number_at v)
  value_form_is (Expr-F.Cell v i) = refl
  value_form_is (Expr-F.Load a) = refl
  value_form_is (Expr-F.Neg a at) = refl
  value_form_is (Expr-F.Not a at) = refl
  value_form_is (Expr-F.Cast z signed a at) = refl
  value_form_is (Expr-F.Bin o a b at) = refl

  value_rolled : (y : Layer) → inline_value k (roll-Expr y) ≡ value_form y
  value_rolled y = fold-roll-Expr _ _ _ _ _ value_step (λ t. tt) (λ a. tt) (λ d. tt) (λ v. k v.name v.copy) y ∙ value_form_is y

  abbrev HasTreeValue : Expr → Type 0
  HasTreeValue e = inline_value k e ≡ tree_value k (tree_of e)

  value_by : (y : Parts HasTreeValue) → value_form (bare HasTreeValue y) ≡ tree_value k (tree_form (bare HasTreeValue y))
  value_by (Expr-F.Num n at) = refl
  value_by (Expr-F.Expr::Bool b at) = refl
  value_by (Expr-F.Var v) = refl
  value_by (Expr-F.Cell v i) = refl
  value_by (Expr-F.Load a) = refl
  value_by (Expr-F.Neg a at) = ap minus a.1
  value_by (Expr-F.Not a at) = ap opposite a.1
  value_by (Expr-F.Cast z signed a at) = refl
  value_by (Expr-F.Bin o a b at) = ap₂ (λ x y. joined o x y) a.1 b.1

  pub value_is : (e : Expr) → inline_value k e ≡ tree_value k (tree_of e)
  value_is = by_forms HasTreeValue (λ y. value_rolled (bare HasTreeValue y) ∙ (value_by y ∙ sym (ap (tree_value k) (tree_rolled (bare HasTreeValue y)))))

pub index_is : (e : Expr) → index_of e ≡ index_tree (tree_of e)
index_is e = ap (λ w. numbered_tree (the_number w) (tree_of e)) (value_is no_values e)

-- ---- where a variable stands
module _ (answers : Answers) (d : Named) (x : Option Tree) where
  abbrev StandsSo : Expr → Type 0
  StandsSo e = touches answers d x e ≡ stands answers d x (tree_of e)

  stands_by : (y : Parts StandsSo) → touches_layer answers d x (bare StandsSo y) ≡ stands answers d x (tree_form (bare StandsSo y))
  stands_by (Expr-F.Num n at) = refl
  stands_by (Expr-F.Expr::Bool b at) = refl
  stands_by (Expr-F.Var v) = refl
  stands_by (Expr-F.Cell v i) = ap₂ (λ s t. (names_eq (named_variable v.0) d && same_index answers x s) || t) (index_is i.0) i.1
  stands_by (Expr-F.Load a) = a.1
  stands_by (Expr-F.Neg a at) = a.1
  stands_by (Expr-F.Not a at) = a.1
  stands_by (Expr-F.Cast z signed a at) = a.1
  stands_by (Expr-F.Bin o a b at) = ap₂ (λ s t. s || t) b.1 a.1

  pub stands_is : (e : Expr) → touches answers d x e ≡ stands answers d x (tree_of e)
  stands_is = by_forms StandsSo (λ y. layer_is answers d x (bare StandsSo y) ∙ (stands_by y ∙ sym (ap (stands answers d x) (tree_rolled (bare StandsSo y)))))

-- ---- meetings
module _ (answers : Answers) (e : Expr) where
  abbrev AtForm : Named → Option Tree → Layer → Type 0
  AtForm d x y = touches answers d x e ≡ stands answers d x (tree_form y)

  var_meets : (d : Named) (y : Layer) → AtForm d None y → var_layer_meets answers d e y ≡ meets answers (Whole d) (tree_form y)
  var_meets d (Expr-F.Var v) h = refl
  var_meets d (Expr-F.Num n at) h = ap elsewhere h
  var_meets d (Expr-F.Expr::Bool b at) h = ap elsewhere h
  var_meets d (Expr-F.Cell v i) h = ap elsewhere h
  var_meets d (Expr-F.Load a) h = ap elsewhere h
  var_meets d (Expr-F.Neg a at) h = ap elsewhere h
  var_meets d (Expr-F.Not a at) h = ap elsewhere h
  var_meets d (Expr-F.Cast z signed a at) h = ap elsewhere h
  var_meets d (Expr-F.Bin o a b at) h = ap elsewhere h

  cell_meets : (d : Named) (k : Tree) (y : Layer) → AtForm d (Some (index_tree k)) y → cell_layer_meets answers d (index_tree k) e y ≡ meets answers (CellAt d k) (tree_form y)
  cell_meets d k (Expr-F.Cell v i) h =
      ap₂ (λ s t. if names_eq (named_variable v) d then one_or_apart (one_cell answers (index_tree k) s) else elsewhere t) (index_is i) h
  cell_meets d k (Expr-F.Var v) h = ap elsewhere h
  cell_meets d k (Expr-F.Num n at) h = ap elsewhere h
  cell_meets d k (Expr-F.Expr::Bool b at) h = ap elsewhere h
  cell_meets d k (Expr-F.Load a) h = ap elsewhere h
  cell_meets d k (Expr-F.Neg a at) h = ap elsewhere h
  cell_meets d k (Expr-F.Not a at) h = ap elsewhere h
  cell_meets d k (Expr-F.Cast z signed a at) h = ap elsewhere h
  cell_meets d k (Expr-F.Bin o a b at) h = ap elsewhere h

  store_meets : (k : Tree) (y : Layer) → store_layer_meets k y ≡ meets answers (AtMemory k) (tree_form y)
  store_meets k (Expr-F.Load a) = refl
  store_meets k (Expr-F.Var v) = refl
  store_meets k (Expr-F.Cell v i) = refl
  store_meets k (Expr-F.Num n at) = refl
  store_meets k (Expr-F.Expr::Bool b at) = refl
  store_meets k (Expr-F.Neg a at) = refl
  store_meets k (Expr-F.Not a at) = refl
  store_meets k (Expr-F.Cast z signed a at) = refl
  store_meets k (Expr-F.Bin o a b at) = refl

  at_form : (d : Named) (x : Option Tree) → AtForm d x (out-Expr e)
  at_form d x = stands_is answers d x e ∙ ap (stands answers d x) (tree_out e)

  by_place : (d : Lval) → meeting_of answers d e ≡ meets answers (place_of d) (tree_form (out-Expr e))
  by_place (lval.Skip at) = refl
  by_place (lval.Var v) = var_meets (named_variable v) (out-Expr e) (at_form (named_variable v) None)
  by_place (lval.Cell v i) =
      ap (λ k. cell_layer_meets answers (named_variable v) k e (out-Expr e)) (index_is i)
      ∙ cell_meets (named_variable v) (tree_of i) (out-Expr e) (at_form (named_variable v) (Some (index_tree (tree_of i))))
  by_place (lval.Store a) = store_meets (tree_of (out-Access a).at) (out-Expr e)

pub meeting_is : MeetingsAreOfTrees
meeting_is answers d e = by_place answers e d ∙ sym (ap (meets answers (place_of d)) (tree_out e))
