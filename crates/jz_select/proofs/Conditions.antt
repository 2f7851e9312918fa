-- What has flags, one layer at a time.
use Rattle.std.proofs.Common.{◌≡◌, Bool, refl, sym, ap, ◌∙◌}
use Rattle.jz_tree.specs.declared.expr.Expr.{Expr}
use Rattle.jz_tree.specs.declared.expr.Expr.TheOpen.{Expr-F}
use Rattle.jz_tree.specs.declared.expr.Expr.TheViews.{out-Expr, roll-Expr, roll-out-Expr}
use Rattle.jz_tree.specs.declared.expr.Expr.TheFolds.{para-roll-Expr, map-Expr}
use Rattle.jz_select.specs.Places.{Layer}
use Rattle.jz_select.specs.Shapes.{TestLayer, has_flags, flags_step}
use Rattle.jz_select.specs.InnerLayers.{flags_layer}

abbrev paired : Layer → TestLayer
paired x = map-Expr _ _ _ _ _ _ _ _ _ _ (λ y. (y, has_flags y)) (λ y. (y, tt)) (λ y. (y, tt)) (λ y. (y, tt)) (λ y. (y, tt)) x

step_is : (x : Layer) → flags_step (paired x) ≡ flags_layer x
step_is (Expr-F.Num n at) = refl
step_is (Expr-F.Expr::Bool c at) = refl
step_is (Expr-F.Var v) = refl
step_is (Expr-F.Cell v e) = refl
step_is (Expr-F.Load a) = refl
step_is (Expr-F.Neg a at) = refl
step_is (Expr-F.Not a at) = refl
step_is (Expr-F.Cast size signed a at) = refl
step_is (Expr-F.Bin o a c at) = refl

layer_is : (x : Layer) → has_flags (roll-Expr x) ≡ flags_layer x
unfolding has_flags
layer_is x = para-roll-Expr Bool (Unit {0}) (Unit {0}) (Unit {0}) (Unit {0}) flags_step (λ x. tt) (λ x. tt) (λ x. tt) (λ x. tt) x ∙ step_is x

pub flags_out : (e : Expr) → has_flags e ≡ flags_layer (out-Expr e)
flags_out e = ap has_flags (sym (roll-out-Expr e)) ∙ layer_is (out-Expr e)
