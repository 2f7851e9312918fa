-- Answers with which less is told apart, and how a destination then meets an operand.
use Rattle.std.proofs.Common.{◌≡◌, Bool, true, false, ◌&&◌, ◌||◌, not, Option, Some, None, refl, sym, ap, ◌∙◌, subst, inl, inr}
use Rattle.std.specs.Prelude.{◌⊎◌}
use Rattle.jz_tree.specs.declared.expr.Expr.{Expr}
use Rattle.jz_tree.specs.declared.expr.Ty.{Ty}
use Rattle.jz_tree.specs.declared.expr.Access.{Access}
use Rattle.jz_tree.specs.declared.expr.Decl.{Decl}
use Rattle.jz_tree.specs.declared.expr.Var.{Var}
use Rattle.jz_tree.specs.declared.expr.Expr.TheOpen.{Expr-F, Access-F}
use Rattle.jz_tree.specs.declared.expr.Expr.TheViews.{out-Access, roll-Expr, roll-Access, out-roll-Access}
use Rattle.jz_tree.specs.declared.expr.Expr.TheFolds.{ind-Expr, map-Expr, map-Access}
use Rattle.jz_select.specs.Trees.{Named, named_variable, names_eq, Tree, index_of, tree_eq}
use Rattle.jz_select.specs.Places.{Layer, Answers, is_number, one_cell, same_index, touches}
use Rattle.jz_select.specs.InnerLayers.{touches_layer}
use Rattle.jz_select.specs.Hardest.{guess}
use Rattle.jz_select.proofs.Uses.{layer_is}
use Rattle.jz_select.proofs.TreeLaws.{tree_one, tree_self}

-- ---- one comparison
yes_bools : (t n b : Bool) → (t || (n && true)) ≡ false → (t || (n && b)) ≡ false
yes_bools true n b e = absurd cc
yes_bools false true b e = absurd cc
yes_bools false false b e = refl

-- where all are said to be one cell, what is none is none with other answers
pub yes_hardest : (B : Answers) (x y : Tree) → one_cell (guess false None) x y ≡ false → one_cell B x y ≡ false
yes_hardest B x y e = yes_bools (tree_eq x y) (not (is_number x && is_number y)) (B x y) e

no_bools : (t n b : Bool) → (t || (n && false)) ≡ true → (t || (n && b)) ≡ true
no_bools true n b e = refl
no_bools false true b e = absurd cc
no_bools false false b e = absurd cc

-- where none is, what is one is one
pub no_hardest : (B : Answers) (s : Option Tree) (x y : Tree) → one_cell (guess true s) x y ≡ true → one_cell B x y ≡ true
no_hardest B s x y e = no_bools (tree_eq x y) (not (is_number x && is_number y)) (B x y) e

self_bools : (t n q b : Bool) → q ≡ true → (t || (n && not q)) ≡ true → (t || (n && b)) ≡ true
self_bools t n q b h e = no_bools t n b (ap (λ (x : Bool). t || (n && not x)) (sym h) ∙ e)

pub but_itself : (B : Answers) (x t : Tree) → one_cell (guess false (Some t)) x t ≡ true → one_cell B x t ≡ true
but_itself B x t e = self_bools (tree_eq x t) (not (is_number x && is_number t)) (tree_eq t t) (B x t) (tree_self t) e

either : (b : Bool) → (b ≡ true) ⊎ (b ≡ false)
either true = inl refl
either false = inr refl

but_bools : (t n q b : Bool) → (t || (n && not q)) ≡ false → ((t || (n && b)) ≡ false) ⊎ (q ≡ true)
but_bools true n q b e = absurd cc
but_bools false false q b e = inl refl
but_bools false true true b e = inr refl
but_bools false true false b e = absurd cc

pub but_hardest : (B : Answers) (x t y : Tree) → one_cell (guess false (Some t)) x y ≡ false → (one_cell B x t ≡ true) ⊎ (one_cell B x y ≡ false)
but_hardest B x t y e =
    elim (but_bools (tree_eq x y) (not (is_number x && is_number y)) (tree_eq t y) (B x y) e) [
      | inl none ↦ inr none
      | inr same ↦ subst (λ z. (one_cell B x t ≡ true) ⊎ (one_cell B x z ≡ false)) (tree_one t y same) (either (one_cell B x t))
    ]

-- ---- where a place stands in an expression
cell_bools : (Q : Type 0) (n s t s' t' : Bool) → (s ≡ false → Q ⊎ (s' ≡ false)) → (t ≡ false → Q ⊎ (t' ≡ false)) → ((n && s) || t) ≡ false → Q ⊎ (((n && s') || t') ≡ false)
cell_bools Q false s t s' t' f g e = g e
cell_bools Q true true t s' t' f g e = absurd cc
cell_bools Q true false t s' t' f g e =
    elim (f refl) [
      | inl q ↦ inl q
      | inr p ↦ elim (g e) [ inl q ↦ inl q | inr r ↦ inr (ap (λ x. x || t') p ∙ r) ]
    ]

or_bools : (Q : Type 0) (s t s' t' : Bool) → (s ≡ false → Q ⊎ (s' ≡ false)) → (t ≡ false → Q ⊎ (t' ≡ false)) → (s || t) ≡ false → Q ⊎ ((s' || t') ≡ false)
or_bools Q s t s' t' f g e = cell_bools Q true s t s' t' f g e

module _ (A B : Answers) (Q : Type 0) (d : Named) (i : Option Tree) (h : (y : Tree) → same_index A i y ≡ false → Q ⊎ (same_index B i y ≡ false)) where
  abbrev Keeps : Expr → Type 0
  Keeps e = touches A d i e ≡ false → Q ⊎ (touches B d i e ≡ false)

  abbrev KeepsAt : Access → Type 0
  KeepsAt a = Keeps (out-Access a).at

  abbrev Proved : Type 0
  Proved = Expr-F ((e : Expr) × Keeps e) (Ty × Unit {0}) ((a : Access) × KeepsAt a) (Decl × Unit {0}) (Var × Unit {0})

  abbrev bare : Proved → Layer
  bare y = map-Expr _ _ _ _ _ _ _ _ _ _ (λ e. e.0) (λ e. e.0) (λ e. e.0) (λ e. e.0) (λ e. e.0) y

  layer_keeps : (y : Proved) → touches_layer A d i (bare y) ≡ false → Q ⊎ (touches_layer B d i (bare y) ≡ false)
  layer_keeps (Expr-F.Num n at) e = inr refl
  layer_keeps (Expr-F.Expr::Bool b at) e = inr refl
  layer_keeps (Expr-F.Var v) e = inr e
  layer_keeps (Expr-F.Cell v k) e = cell_bools Q (names_eq (named_variable v.0) d) _ _ _ _ (h (index_of k.0)) k.1 e
  layer_keeps (Expr-F.Load a) e = a.1 e
  layer_keeps (Expr-F.Neg a at) e = a.1 e
  layer_keeps (Expr-F.Not a at) e = a.1 e
  layer_keeps (Expr-F.Cast z s a at) e = a.1 e
  layer_keeps (Expr-F.Bin o a b at) e = or_bools Q _ _ _ _ b.1 a.1 e

  expr_case : (y : Proved) → Keeps (roll-Expr (bare y))
  expr_case y e =
      elim (layer_keeps y (sym (layer_is A d i (bare y)) ∙ e))
      [ inl q ↦ inl q | inr p ↦ inr (layer_is B d i (bare y) ∙ p) ]

  access_case : (y : Access-F ((e : Expr) × Keeps e) (Ty × Unit {0}) ((a : Access) × KeepsAt a) (Decl × Unit {0}) (Var × Unit {0}))
      → KeepsAt (roll-Access (map-Access _ _ _ _ _ _ _ _ _ _ (λ e. e.0) (λ e. e.0) (λ e. e.0) (λ e. e.0) (λ e. e.0) y))
  access_case y =
      let x = map-Access _ _ _ _ _ Expr Ty Access Decl Var (λ e. e.0) (λ e. e.0) (λ e. e.0) (λ e. e.0) (λ e. e.0) y in
      subst (λ z. Keeps z.at) (sym (out-roll-Access x)) y.at.1

  pub touches_kept : (e : Expr) → Keeps e
  touches_kept =
      ind-Expr Keeps (λ t. Unit {0}) KeepsAt (λ d. Unit {0}) (λ v. Unit {0})
      (λ x y is. subst (λ z. Keeps (roll-Expr z)) is (expr_case y))
      (λ x y is. tt)
      (λ x y is. subst (λ z. KeepsAt (roll-Access z)) is (access_case y))
      (λ x y is. tt)
      (λ x y is. tt)
