-- What conditions compare keeps its size.
use Rattle.std.proofs.Common.{◌≡◌, ℕ, false, Option, Some, None, refl, sym, ap, ◌∙◌, subst}
use Rattle.std.specs.Option.{option_or}
use Rattle.std.proofs.lemmas.Bool.{true≢false}
use Rattle.jz_tree.specs.Size.{Size}
use Rattle.jz_tree.specs.declared.expr.Access.{Access}
use Rattle.jz_tree.specs.declared.expr.Decl.{Decl}
use Rattle.jz_tree.specs.declared.expr.Ty.{Ty}
use Rattle.jz_tree.specs.declared.expr.Expr.{Expr}
use Rattle.jz_tree.specs.declared.expr.Expr.TheVariants as expr
use Rattle.jz_tree.specs.declared.expr.Expr.TheOpen.{Expr-F}
use Rattle.jz_tree.specs.declared.expr.Expr.TheViews.{roll-Expr}
use Rattle.jz_tree.specs.declared.expr.Expr.TheFolds.{ind-Expr, map-Expr}
use Rattle.jz_tree.specs.declared.expr.Var.{Var}
use Rattle.jz_integers.specs.Integers.{KnownNumbers}
use Rattle.jz_type_names.specs.Kinds.{is_inline}
use Rattle.jz_unroll.specs.Values.{with_values, access_with_values}
use Rattle.jz_unroll.proofs.Layers.{Layer}
use Rattle.jz_unroll.proofs.Parts.{values_var, values_cell, values_load}
use Rattle.jz_arrays.specs.Cells.{size_at, cell_in, scalar, cell_or, with_scalars, access_with_scalars}
use Rattle.jz_arrays.proofs.Reading.{rolled, in_is}
use Rattle.jz_limits.specs.Asked.{size_compared}
use Rattle.jz_limits.proofs.Compared.{compared_var, compared_cell, compared_load, compared_neg, compared_not, compared_cast, compared_bin}
use Rattle.jz_kept_limits.proofs.ValuedParts.{IsValued, an_inline, a_variable, a_cell, a_load, a_minus, a_denial, a_cast, of_two}
use Rattle.jz_kept_limits.proofs.SizeLemmas.{values_minus, values_denial, values_cast, values_two, values_own, scalars_own}

-- ---- values
module _ (k : KnownNumbers) where
  compared_as : (e w : Expr) → with_values k e ≡ w → size_compared w ≡ size_compared e → size_compared (with_values k e) ≡ size_compared e
  compared_as e w t h = ap size_compared t ∙ h

  -- of what is not inline
  pub values_compared : (e : Expr) → IsValued k e → is_inline e ≡ false → size_compared (with_values k e) ≡ size_compared e
  values_compared e (an_inline e2 c h v) n = absurd (true≢false (sym h ∙ n))
  values_compared e (a_variable v m u) n = compared_as (expr.Var v) (expr.Var v) (values_var k v m) refl
  values_compared e (a_cell v i x) n = compared_as (expr.Cell v i) (expr.Cell v (with_values k i)) (values_cell k v i) (compared_cell v (with_values k i) ∙ sym (compared_cell v i))
  values_compared e (a_load a x) n = compared_as (expr.Load a) (expr.Load (access_with_values k a)) (values_load k a) (compared_load (access_with_values k a) ∙ sym (compared_load a))
  values_compared e (a_minus a at m x) n = compared_as (expr.Neg a at) (expr.Neg (with_values k a) at) (values_minus k a at m) (compared_neg (with_values k a) at ∙ sym (compared_neg a at))
  values_compared e (a_denial a at m x) n =
      compared_as (expr.Not a at) (expr.Not (with_values k a) at) (values_denial k a at m) (compared_not (with_values k a) at ∙ values_compared a x m ∙ sym (compared_not a at))
  values_compared e (a_cast z s a at x) n = compared_as (expr.Cast z s a at) (expr.Cast z s (with_values k a) at) (values_cast k z s a at) (compared_cast z s (with_values k a) at ∙ sym (compared_cast z s a at))
  values_compared e (of_two o a b at m x y) n =
      compared_as (expr.Bin o a b at) (expr.Bin o (with_values k a) (with_values k b) at) (values_two k o a b at m)
      (compared_bin o (with_values k a) (with_values k b) at ∙ (λ j. option_or (values_own k a x j) (values_own k b y j)) ∙ sym (compared_bin o a b at))

-- ---- words in place of cells
abbrev ExprLaw : Expr → Type 0
ExprLaw x = size_compared (with_scalars x) ≡ size_compared x

abbrev Any : {A : Type 0} → A → Type 0
Any y = Unit {0}

abbrev Known : Type 0
Known = Expr-F ((x : Expr) × ExprLaw x) ((y : Ty) × Any y) ((a : Access) × Any a) ((d : Decl) × Any d) ((v : Var) × Any v)

abbrev bare : Known → Layer
bare y = map-Expr _ _ _ _ _ _ _ _ _ _ (λ x. x.0) (λ x. x.0) (λ x. x.0) (λ x. x.0) (λ x. x.0) y

-- each as it is rolled
rolls_as : (x y x2 y2 : Expr) → x2 ≡ x → y2 ≡ y → size_compared y ≡ size_compared x → size_compared y2 ≡ size_compared x2
rolls_as x y x2 y2 e f h = ap size_compared f ∙ h ∙ sym (ap size_compared e)

chosen_compared : (v : Var) (i x : Expr) (z : Option Size) (n : Option ℕ) → size_compared (cell_or v x z n) ≡ size_compared (expr.Cell v i)
chosen_compared v i x (Some z) (Some n) = ap size_compared (expr.rolls-Var (scalar v z n)) ∙ compared_var (scalar v z n) ∙ sym (compared_cell v i)
chosen_compared v i x (Some z) None = ap size_compared (expr.rolls-Cell v x) ∙ compared_cell v x ∙ sym (compared_cell v i)
chosen_compared v i x None (Some n) = ap size_compared (expr.rolls-Cell v x) ∙ compared_cell v x ∙ sym (compared_cell v i)
chosen_compared v i x None None = ap size_compared (expr.rolls-Cell v x) ∙ compared_cell v x ∙ sym (compared_cell v i)

layer_compared : (y : Known) → size_compared (rolled (bare y)) ≡ size_compared (roll-Expr (bare y))
layer_compared (Expr-F.Num n at) = refl
layer_compared (Expr-F.Expr::Bool b at) = refl
layer_compared (Expr-F.Var v) = refl
layer_compared (Expr-F.Cell v i) = chosen_compared v.0 i.0 (with_scalars i.0) (size_at v.0) (cell_in v.0 i.0) ∙ sym (ap size_compared (expr.rolls-Cell v.0 i.0))
layer_compared (Expr-F.Load a) =
    let b = access_with_scalars a.0 in
    rolls_as (expr.Load a.0) (expr.Load b) (roll-Expr (Expr-F.Load a.0)) (roll-Expr (Expr-F.Load b)) (expr.rolls-Load a.0) (expr.rolls-Load b) (compared_load b ∙ sym (compared_load a.0))
layer_compared (Expr-F.Neg a at) =
    let b = with_scalars a.0 in
    rolls_as (expr.Neg a.0 at) (expr.Neg b at) (roll-Expr (Expr-F.Neg a.0 at)) (roll-Expr (Expr-F.Neg b at)) (expr.rolls-Neg a.0 at) (expr.rolls-Neg b at) (compared_neg b at ∙ sym (compared_neg a.0 at))
layer_compared (Expr-F.Not a at) =
    let b = with_scalars a.0 in
    rolls_as (expr.Not a.0 at) (expr.Not b at) (roll-Expr (Expr-F.Not a.0 at)) (roll-Expr (Expr-F.Not b at)) (expr.rolls-Not a.0 at) (expr.rolls-Not b at) (compared_not b at ∙ a.1 ∙ sym (compared_not a.0 at))
layer_compared (Expr-F.Cast z s a at) =
    let b = with_scalars a.0 in
    rolls_as (expr.Cast z s a.0 at) (expr.Cast z s b at) (roll-Expr (Expr-F.Cast z s a.0 at)) (roll-Expr (Expr-F.Cast z s b at)) (expr.rolls-Cast z s a.0 at) (expr.rolls-Cast z s b at)
    (compared_cast z s b at ∙ sym (compared_cast z s a.0 at))
layer_compared (Expr-F.Bin o a b at) =
    let c = with_scalars a.0 in
    let d = with_scalars b.0 in
    rolls_as (expr.Bin o a.0 b.0 at) (expr.Bin o c d at) (roll-Expr (Expr-F.Bin o a.0 b.0 at)) (roll-Expr (Expr-F.Bin o c d at)) (expr.rolls-Bin o a.0 b.0 at) (expr.rolls-Bin o c d at)
    (compared_bin o c d at ∙ (λ j. option_or (scalars_own a.0 j) (scalars_own b.0 j)) ∙ sym (compared_bin o a.0 b.0 at))

expr_case : (y : Known) → ExprLaw (roll-Expr (bare y))
expr_case y = ap size_compared (in_is (bare y)) ∙ layer_compared y

pub scalars_compared : (x : Expr) → ExprLaw x
scalars_compared =
    ind-Expr ExprLaw Any Any Any Any
    (λ z y is. subst (λ w. ExprLaw (roll-Expr w)) is (expr_case y))
    (λ z y is. tt)
    (λ z y is. tt)
    (λ z y is. tt)
    (λ z y is. tt)
