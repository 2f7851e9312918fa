-- Where a place stands in an expression, one layer at a time.
use Rattle.std.proofs.Common.{◌≡◌, Bool, Option, refl, sym, ap, ◌∙◌}
use Rattle.jz_tree.specs.declared.expr.Expr.{Expr}
use Rattle.jz_tree.specs.declared.expr.Access.{Access}
use Rattle.jz_tree.specs.declared.expr.Expr.TheOpen.{Expr-F}
use Rattle.jz_tree.specs.declared.expr.Expr.TheViews.{out-Expr, out-Access, roll-Expr, roll-out-Expr, roll-out-Access}
use Rattle.jz_tree.specs.declared.expr.Expr.TheFolds.{para-roll-Expr, para-roll-Access, map-Expr, para-Access}
use Rattle.jz_select.specs.Trees.{Named, Tree}
use Rattle.jz_select.specs.Places.{Layer, Answers, UseLayer, use_step, touches}
use Rattle.jz_select.specs.InnerLayers.{touches_layer}

module _ (answers : Answers) (d : Named) (x : Option Tree) where
  touches_at : Access → Bool
  touches_at = para-Access Bool (Unit {0}) Bool (Unit {0}) (Unit {0}) (use_step answers d x) (λ t. tt) (λ a. a.at.1) (λ d. tt) (λ v. tt)

  at_is : (a : Access) → touches_at a ≡ touches answers d x (out-Access a).at
  unfolding touches_at touches
  at_is a = ap touches_at (sym (roll-out-Access a)) ∙ para-roll-Access Bool (Unit {0}) Bool (Unit {0}) (Unit {0}) (use_step answers d x) (λ t. tt) (λ a. a.at.1) (λ d. tt) (λ v. tt) (out-Access a)

  abbrev paired : Layer → UseLayer
  paired y = map-Expr _ _ _ _ _ _ _ _ _ _ (λ e. (e, touches answers d x e)) (λ t. (t, tt)) (λ a. (a, touches_at a)) (λ t. (t, tt)) (λ t. (t, tt)) y

  step_is : (y : Layer) → use_step answers d x (paired y) ≡ touches_layer answers d x y
  step_is (Expr-F.Num n at) = refl
  step_is (Expr-F.Expr::Bool c at) = refl
  step_is (Expr-F.Var v) = refl
  step_is (Expr-F.Cell v e) = refl
  step_is (Expr-F.Load a) = at_is a
  step_is (Expr-F.Neg a at) = refl
  step_is (Expr-F.Not a at) = refl
  step_is (Expr-F.Cast size signed a at) = refl
  step_is (Expr-F.Bin o a c at) = refl

  pub layer_is : (y : Layer) → touches answers d x (roll-Expr y) ≡ touches_layer answers d x y
  unfolding touches touches_at
  layer_is y = para-roll-Expr Bool (Unit {0}) Bool (Unit {0}) (Unit {0}) (use_step answers d x) (λ t. tt) (λ a. a.at.1) (λ d. tt) (λ v. tt) y ∙ step_is y

pub touches_out : (answers : Answers) (d : Named) (x : Option Tree) (e : Expr) → touches answers d x e ≡ touches_layer answers d x (out-Expr e)
touches_out answers d x e = ap (touches answers d x) (sym (roll-out-Expr e)) ∙ layer_is answers d x (out-Expr e)
