-- What an expression of a body is in a copy: inline where it was, with the value that it had, and
-- nothing else is told of it.
use Rattle.std.proofs.Common.{◌≡◌, ℕ, List, [], ◌++◌, Option, Some, None, Bool, true, false, refl, ap, sym, ◌∙◌, subst, arith}
use Rattle.std.specs.Prelude.{ℤ, ◌&&◌, option_map}
use Rattle.std.proofs.lemmas.Bool.{and_parts}
use Rattle.std.proofs.lemmas.Bool.Decides.{nat_tests}
use Rattle.jz_tree.specs.Span.{Span}
use Rattle.jz_tree.specs.declared.expr.Expr.{Expr}
use Rattle.jz_tree.specs.declared.expr.Ty.{Ty}
use Rattle.jz_tree.specs.declared.expr.Access.{Access}
use Rattle.jz_tree.specs.declared.expr.Decl.{Decl}
use Rattle.jz_tree.specs.declared.expr.Var.{Var}
use Rattle.jz_tree.specs.declared.expr.Expr.TheOpen.{Expr-F, Access-F, Var-F}
use Rattle.jz_tree.specs.declared.expr.Expr.TheViews.{roll-Expr, roll-Access, out-Access, out-Var, out-roll-Expr, out-roll-Access, out-roll-Var, roll-out-Var, roll-out-Access}
use Rattle.jz_tree.specs.declared.expr.Expr.TheFolds.{fold-Var, fold-roll-Expr, fold-roll-Var, ind-Expr, map-Expr, map-Access}
use Rattle.jz_type_names.specs.Kinds.{declared_of, known_of, is_inline_int, is_inline}
use Rattle.jz_type_names.specs.Parts.{span_layer, span_of}
use Rattle.jz_integers.specs.Integers.{KnownNumbers, number, truth, minus, opposite, joined, value_step, inline_value}
use Rattle.jz_integers.specs.declared.constant.Constant.{Constant}
use Rattle.jz_meaning.specs.Values.{Ref, ref_of}
use Rattle.jz_limits.specs.declared.limit.Limit.{Limit}
use Rattle.jz_limits.specs.Asked.{Told, told_as, told, part_widths}
use Rattle.jz_inline.specs.Names.{Names, var_in, expr_in, access_in}
use Rattle.jz_inline.proofs.Reading.{layer_in, in_is, access_layer_in, access_in_is, over_layer, over_is, access_over_is}
use Rattle.jz_unroll.specs.Values.{InlineNames, has_values}
use Rattle.jz_unroll.proofs.Layers.{Layer, ref_rolled}
use Rattle.jz_unroll.proofs.InlineParts.{inline_layer, inline_is}
use Rattle.jz_unrolling_laws.specs.AskedLaws.{has_named, of_text, any_array, is_text, is_access_text}
use Rattle.jz_unrolling_laws.proofs.AskedValues.{access_told, paired, told_is, access_told_is, asked_values}

no_copy : (v : Var) → of_text (ref_of v) ≡ true → (out-Var v).copy ≡ 0
no_copy v t =
    let z : (ref_of v).copy ≡ 0 = grind (arith, nat_tests, t) in
    sym (ap (λ y. (ref_of y).copy) (sym (roll-out-Var v)) ∙ ap (λ (r : Ref). r.copy) (ref_rolled (out-Var v))) ∙ z

-- ---- values by layers

abbrev pub value_layer : KnownNumbers → Layer → Option Constant
value_layer e (Expr-F.Num n at) = number (Some n)
value_layer e (Expr-F.Expr::Bool b at) = truth b
value_layer e (Expr-F.Var v) = number (e (out-Var v).name (out-Var v).copy)
value_layer e (Expr-F.Cell v i) = None
value_layer e (Expr-F.Load a) = None
value_layer e (Expr-F.Neg a at) = minus (inline_value e a)
value_layer e (Expr-F.Not a at) = opposite (inline_value e a)
value_layer e (Expr-F.Cast z s a at) = None
value_layer e (Expr-F.Bin o a b at) = joined o (inline_value e a) (inline_value e b)

module _ (e : KnownNumbers) where
  abbrev number_at : Var → Option ℤ
  number_at = fold-Var _ _ _ _ _ value_step (λ t. tt) (λ a. tt) (λ d. tt) (λ v. e v.name v.copy)

  number_known : (v : Var) → number_at v ≡ e (out-Var v).name (out-Var v).copy
  number_known v = ap number_at (sym (roll-out-Var v)) ∙ fold-roll-Var _ _ _ _ _ value_step (λ t. tt) (λ a. tt) (λ d. tt) (λ v. e v.name v.copy) (out-Var v)

  value_step_is : (x : Layer) → value_step (map-Expr _ _ _ _ _ (Option Constant) (Unit {0}) (Unit {0}) (Unit {0}) (Option ℤ) (inline_value e) (λ t. tt) (λ a. tt) (λ d. tt) number_at x) ≡ value_layer e x
  value_step_is (Expr-F.Num n at) = refl
  value_step_is (Expr-F.Expr::Bool b at) = refl
  value_step_is (Expr-F.Var v) = ap number (number_known v)
  value_step_is (Expr-F.Cell v i) = refl
  value_step_is (Expr-F.Load a) = refl
  value_step_is (Expr-F.Neg a at) = refl
  value_step_is (Expr-F.Not a at) = refl
  value_step_is (Expr-F.Cast z s a at) = refl
  value_step_is (Expr-F.Bin o a b at) = refl

  pub value_is : (x : Layer) → inline_value e (roll-Expr x) ≡ value_layer e x
  value_is x = fold-roll-Expr _ _ _ _ _ value_step (λ t. tt) (λ a. tt) (λ d. tt) (λ v. e v.name v.copy) x ∙ value_step_is x

-- ---- the first token stays

span_is : (x : Layer) → span_of (roll-Expr x) ≡ span_layer x
span_is x = ap span_layer (out-roll-Expr x)

module _ (m : Names) where
  var_span : (v : Var) → (out-Var (var_in m v)).span ≡ (out-Var v).span
  var_span v = ap (λ (x : Var-F Expr Ty Access Decl Var). x.span) (out-roll-Var _)

  access_span : (a : Access) → (out-Access (access_in m a)).span ≡ (out-Access a).span
  access_span a =
      ap (λ y. (out-Access (access_in m y)).span) (sym (roll-out-Access a))
      ∙ ap (λ y. (out-Access y).span) (access_in_is m (out-Access a))
      ∙ ap (λ (x : Access-F Expr Ty Access Decl Var). x.span) (out-roll-Access (access_layer_in m (out-Access a)))

  layer_span : (x : Layer) → span_layer (layer_in m x) ≡ span_layer x
  layer_span (Expr-F.Num n at) = refl
  layer_span (Expr-F.Expr::Bool b at) = refl
  layer_span (Expr-F.Var v) = var_span v
  layer_span (Expr-F.Cell v i) = var_span v
  layer_span (Expr-F.Load a) = access_span a
  layer_span (Expr-F.Neg a at) = refl
  layer_span (Expr-F.Not a at) = refl
  layer_span (Expr-F.Cast z s a at) = refl
  layer_span (Expr-F.Bin o a b at) = refl

  span_stays : (x : Layer) → span_of (expr_in m (roll-Expr x)) ≡ span_of (roll-Expr x)
  span_stays x = ap span_of (in_is m x) ∙ span_is (layer_in m x) ∙ layer_span x ∙ sym (span_is x)

  -- ---- inline or not

  var_inline : (v : Var) → is_inline_int (known_of (var_in m v)) ≡ is_inline_int (known_of v)
  var_inline v = ap (λ (x : Var-F Expr Ty Access Decl Var). is_inline_int (option_map declared_of x.decl)) (out-roll-Var _)

  abbrev Any : {A : Type 0} → A → Type 0
  Any y = Unit {0}

  abbrev InlineLaw : Expr → Type 0
  InlineLaw x = is_inline (expr_in m x) ≡ is_inline x

  abbrev Inlined : Type 0
  Inlined = Expr-F ((x : Expr) × InlineLaw x) ((y : Ty) × Any y) ((a : Access) × Any a) ((d : Decl) × Any d) ((v : Var) × Any v)

  abbrev bare_inline : Inlined → Layer
  bare_inline y = map-Expr _ _ _ _ _ _ _ _ _ _ (λ x. x.0) (λ x. x.0) (λ x. x.0) (λ x. x.0) (λ x. x.0) y

  inline_law : (y : Inlined) → inline_layer (layer_in m (bare_inline y)) ≡ inline_layer (bare_inline y)
  inline_law (Expr-F.Num n at) = refl
  inline_law (Expr-F.Expr::Bool b at) = refl
  inline_law (Expr-F.Var v) = var_inline v.0
  inline_law (Expr-F.Cell v i) = refl
  inline_law (Expr-F.Load a) = refl
  inline_law (Expr-F.Neg a at) = a.1
  inline_law (Expr-F.Not a at) = a.1
  inline_law (Expr-F.Cast z s a at) = refl
  inline_law (Expr-F.Bin o a b at) = ap (λ p. p && is_inline (expr_in m b.0)) a.1 ∙ ap (λ p. is_inline a.0 && p) b.1

  inline_case : (y : Inlined) → InlineLaw (roll-Expr (bare_inline y))
  inline_case y = ap is_inline (in_is m (bare_inline y)) ∙ inline_is (layer_in m (bare_inline y)) ∙ inline_law y ∙ sym (inline_is (bare_inline y))

  pub copied_inline : (x : Expr) → InlineLaw x
  copied_inline =
      ind-Expr InlineLaw Any Any Any Any
      (λ z y is. subst (λ k. InlineLaw (roll-Expr k)) is (inline_case y))
      (λ z y is. tt)
      (λ z y is. tt)
      (λ z y is. tt)
      (λ z y is. tt)

  module _ (e k : KnownNumbers) (agree : (n : List ℕ) → k (m n).0 (m n).1 ≡ e n 0) where
    -- ---- values

    var_value : (v : Var) → of_text (ref_of v) ≡ true → k (out-Var (var_in m v)).name (out-Var (var_in m v)).copy ≡ e (out-Var v).name (out-Var v).copy
    var_value v t =
        ap (λ (x : Var-F Expr Ty Access Decl Var). k x.name x.copy) (out-roll-Var _) ∙ agree (out-Var v).name ∙ ap (e (out-Var v).name) (sym (no_copy v t))

    abbrev ValueLaw : Expr → Type 0
    ValueLaw x = is_text x ≡ true → inline_value k (expr_in m x) ≡ inline_value e x

    abbrev Valued : Type 0
    Valued = Expr-F ((x : Expr) × ValueLaw x) ((y : Ty) × Any y) ((a : Access) × Any a) ((d : Decl) × Any d) ((v : Var) × Any v)

    abbrev bare_value : Valued → Layer
    bare_value y = map-Expr _ _ _ _ _ _ _ _ _ _ (λ x. x.0) (λ x. x.0) (λ x. x.0) (λ x. x.0) (λ x. x.0) y

    value_law : (y : Valued) → over_layer of_text any_array (bare_value y) ≡ true → value_layer k (layer_in m (bare_value y)) ≡ value_layer e (bare_value y)
    value_law (Expr-F.Num n at) t = refl
    value_law (Expr-F.Expr::Bool b at) t = refl
    value_law (Expr-F.Var v) t = ap number (var_value v.0 t)
    value_law (Expr-F.Cell v i) t = refl
    value_law (Expr-F.Load a) t = refl
    value_law (Expr-F.Neg a at) t = ap minus (a.1 t)
    value_law (Expr-F.Not a at) t = ap opposite (a.1 t)
    value_law (Expr-F.Cast z s a at) t = refl
    value_law (Expr-F.Bin o a b at) t =
        let q = and_parts (is_text a.0) _ t in ap (λ p. joined o p (inline_value k (expr_in m b.0))) (a.1 q.0) ∙ ap (joined o (inline_value e a.0)) (b.1 q.1)

    value_case : (y : Valued) → ValueLaw (roll-Expr (bare_value y))
    value_case y t =
        ap (inline_value k) (in_is m (bare_value y)) ∙ value_is k (layer_in m (bare_value y)) ∙ value_law y (sym (over_is of_text any_array (bare_value y)) ∙ t) ∙ sym (value_is e (bare_value y))

    pub copied_value : (x : Expr) → ValueLaw x
    copied_value =
        ind-Expr ValueLaw Any Any Any Any
        (λ z y is. subst (λ k. ValueLaw (roll-Expr k)) is (value_case y))
        (λ z y is. tt)
        (λ z y is. tt)
        (λ z y is. tt)
        (λ z y is. tt)

    -- ---- what is told

    abbrev WidthLaw : Expr → Type 0
    WidthLaw x = is_text x ≡ true → (place : Option Span) → (told k (expr_in m x)).widths place ≡ (told e x).widths place

    abbrev AccessLaw : Access → Type 0
    AccessLaw a = is_access_text a ≡ true → (place : Option Span) → (access_told k (access_in m a)).widths place ≡ (access_told e a).widths place

    abbrev Told' : Type 0
    Told' = Expr-F ((x : Expr) × WidthLaw x) ((y : Ty) × Any y) ((a : Access) × AccessLaw a) ((d : Decl) × Any d) ((v : Var) × Any v)

    abbrev bare : Told' → Layer
    bare y = map-Expr _ _ _ _ _ _ _ _ _ _ (λ x. x.0) (λ x. x.0) (λ x. x.0) (λ x. x.0) (λ x. x.0) y

    widths_law : (y : Told') → over_layer of_text any_array (bare y) ≡ true → (place : Option Span) → part_widths k (paired k (layer_in m (bare y))) place ≡ part_widths e (paired e (bare y)) place
    widths_law (Expr-F.Num n at) t place = refl
    widths_law (Expr-F.Expr::Bool b at) t place = refl
    widths_law (Expr-F.Var v) t place = refl
    widths_law (Expr-F.Cell v i) t place = ap (λ s. (told k (expr_in m i.0)).widths (Some s)) (var_span v.0) ∙ i.1 t (Some (out-Var v.0).span)
    widths_law (Expr-F.Load a) t place = a.1 t place
    widths_law (Expr-F.Neg a at) t place = a.1 t place
    widths_law (Expr-F.Not a at) t place = a.1 t place
    widths_law (Expr-F.Cast z s a at) t place = a.1 t place
    widths_law (Expr-F.Bin o a b at) t place =
        let q = and_parts (is_text a.0) _ t in ap (λ p. p ++ (told k (expr_in m b.0)).widths place) (a.1 q.0 place) ∙ ap (λ p. (told e a.0).widths place ++ p) (b.1 q.1 place)

    -- by whether it is inline, its value and its first token
    abbrev as_told : KnownNumbers → Bool → Option Constant → Span → Layer → Option Span → List Limit
    as_told z b v at x place = (told_as z b v at (paired z x)).widths place

    as_law : (b : Bool) (v : Option Constant) (at : Span) (y : Told') → over_layer of_text any_array (bare y) ≡ true → (place : Option Span) → as_told k b v at (layer_in m (bare y)) place ≡ as_told e b v at (bare y) place
    as_law true v at y t place = refl
    as_law false v at y t place = widths_law y t place

    widths_case : (y : Told') → WidthLaw (roll-Expr (bare y))
    widths_case y t place =
        ap (λ z. (told k z).widths place) (in_is m x)
        ∙ ap (λ (z : Told). z.widths place) (told_is k (layer_in m x))
        ∙ ap (λ z. as_told k (is_inline z) (inline_value k z) (span_of z) (layer_in m x) place) (sym (in_is m x))
        ∙ ap (λ b. as_told k b (inline_value k (expr_in m (roll-Expr x))) (span_of (expr_in m (roll-Expr x))) (layer_in m x) place) (copied_inline (roll-Expr x))
        ∙ ap (λ v. as_told k (is_inline (roll-Expr x)) v (span_of (expr_in m (roll-Expr x))) (layer_in m x) place) (copied_value (roll-Expr x) t)
        ∙ ap (λ at. as_told k (is_inline (roll-Expr x)) (inline_value e (roll-Expr x)) at (layer_in m x) place) (span_stays x)
        ∙ as_law (is_inline (roll-Expr x)) (inline_value e (roll-Expr x)) (span_of (roll-Expr x)) y (sym (over_is of_text any_array x) ∙ t) place
        ∙ sym (ap (λ (z : Told). z.widths place) (told_is e x))
      where
        x : Layer
        x = bare y

    access_case : (y : Access-F ((x : Expr) × WidthLaw x) ((z : Ty) × Any z) ((a : Access) × AccessLaw a) ((d : Decl) × Any d) ((v : Var) × Any v)) → AccessLaw (roll-Access (map-Access _ _ _ _ _ _ _ _ _ _ (λ x. x.0) (λ x. x.0) (λ x. x.0) (λ x. x.0) (λ x. x.0) y))
    access_case y t place =
        let x = map-Access _ _ _ _ _ Expr Ty Access Decl Var (λ x. x.0) (λ x. x.0) (λ x. x.0) (λ x. x.0) (λ x. x.0) y in
        ap (λ z. (access_told k z).widths place) (access_in_is m x) ∙ access_told_is k (access_layer_in m x) place
        ∙ y.at.1 (sym (access_over_is of_text any_array x) ∙ t) (Some y.span) ∙ sym (access_told_is e x place)

    pub copied_widths : (x : Expr) → WidthLaw x
    copied_widths =
        ind-Expr WidthLaw Any AccessLaw Any Any
        (λ z y is. subst (λ k. WidthLaw (roll-Expr k)) is (widths_case y))
        (λ z y is. tt)
        (λ z y is. subst (λ k. AccessLaw (roll-Access k)) is (access_case y))
        (λ z y is. tt)
        (λ z y is. tt)

    -- where nothing is told of it, its copy has values in place of its inline parts
    pub copied_values : (names : InlineNames) (x : Expr) → is_text x ≡ true → has_named names (expr_in m x) ≡ true → (place : Option Span) → (told e x).widths place ≡ [] → has_values names k (expr_in m x) ≡ true
    copied_values names x t named place none = asked_values names k (expr_in m x) named place (copied_widths x t place ∙ none)
