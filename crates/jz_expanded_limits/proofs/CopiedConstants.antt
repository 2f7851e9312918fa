-- Values stand in a copy of an expression where they stand in the expression.
use Rattle.std.proofs.Common.{◌≡◌, zero, suc, Option, Some, None, Bool, true, false, refl, ap, sym, ◌∙◌, subst}
use Rattle.std.specs.Prelude.{if◌then◌else◌}
use Rattle.std.proofs.lemmas.Bool.{and_parts}
use Rattle.jz_tree.specs.Span.{Span}
use Rattle.jz_tree.specs.declared.expr.Expr.{Expr}
use Rattle.jz_tree.specs.declared.expr.Expr.TheVariants as expr
use Rattle.jz_tree.specs.declared.expr.Ty.{Ty}
use Rattle.jz_tree.specs.declared.expr.Access.{Access}
use Rattle.jz_tree.specs.declared.expr.Decl.{Decl}
use Rattle.jz_tree.specs.declared.expr.Var.{Var}
use Rattle.jz_tree.specs.declared.expr.Expr.TheOpen.{Expr-F, Access-F, Var-F}
use Rattle.jz_tree.specs.declared.expr.Expr.TheViews.{roll-Expr, roll-Access, out-Var, out-roll-Expr, out-roll-Var}
use Rattle.jz_tree.specs.declared.expr.Expr.TheFolds.{ind-Expr, map-Expr, map-Access}
use Rattle.jz_type_names.specs.Kinds.{is_inline}
use Rattle.jz_type_names.specs.Parts.{span_layer, span_of}
use Rattle.jz_integers.specs.Integers.{KnownNumbers, inline_value}
use Rattle.jz_integers.specs.declared.constant.Constant.{Constant}
use Rattle.jz_integers.specs.declared.constant.Constant.TheVariants as constant
use Rattle.jz_inline.specs.Names.{Names, var_in, expr_in, access_in}
use Rattle.jz_inline.proofs.Reading.{layer_in, in_is, access_layer_in, access_in_is, over_layer, over_is, access_over_is}
use Rattle.jz_unroll.specs.Values.{constant_expr, with_values, access_with_values}
use Rattle.jz_unroll.proofs.Layers.{Layer}
use Rattle.jz_unroll.proofs.Valued.{parts_in, values_layer, values_is, access_values_is}
use Rattle.jz_unrolling_laws.specs.AskedLaws.{of_text, any_array, is_text, is_access_text}
use Rattle.jz_unrolling_laws.proofs.CopiedValues.{copied_inline, copied_value}
use Rattle.jz_expanded_limits.proofs.CopiedLooks.{access_out}

-- what is known of the variables of a copy, of the variables themselves
abbrev pub pulled : Names → KnownNumbers → KnownNumbers
pulled m k n zero = k (m n).0 (m n).1
pulled m k n (suc c) = None

module _ (m : Names) (k : KnownNumbers) where
  abbrev P : KnownNumbers
  P = pulled m k

  pub value_pulled : (x : Expr) → is_text x ≡ true → inline_value k (expr_in m x) ≡ inline_value P x
  value_pulled x t = copied_value m P k (λ n. refl) x t

  -- ---- the first token stays
  span_is : (x : Layer) → span_of (roll-Expr x) ≡ span_layer x
  span_is x = ap span_layer (out-roll-Expr x)

  var_span : (v : Var) → (out-Var (var_in m v)).span ≡ (out-Var v).span
  var_span v = ap (λ (x : Var-F Expr Ty Access Decl Var). x.span) (out-roll-Var _)

  layer_span : (x : Layer) → span_layer (layer_in m x) ≡ span_layer x
  layer_span (Expr-F.Num n at) = refl
  layer_span (Expr-F.Expr::Bool b at) = refl
  layer_span (Expr-F.Var v) = var_span v
  layer_span (Expr-F.Cell v i) = var_span v
  layer_span (Expr-F.Load a) = ap (λ (x : Access-F Expr Ty Access Decl Var). x.span) (access_out m a)
  layer_span (Expr-F.Neg a at) = refl
  layer_span (Expr-F.Not a at) = refl
  layer_span (Expr-F.Cast z s a at) = refl
  layer_span (Expr-F.Bin o a b at) = refl

  span_stays : (x : Layer) → span_of (expr_in m (roll-Expr x)) ≡ span_of (roll-Expr x)
  span_stays x = ap span_of (in_is m x) ∙ span_is (layer_in m x) ∙ layer_span x ∙ sym (span_is x)

  -- ---- constants
  constant_in : (at : Span) (x : Expr) (c : Option Constant) → expr_in m (constant_expr at x c) ≡ constant_expr at (expr_in m x) c
  constant_in at x None = refl
  constant_in at x (Some (constant.Int i)) = ap (expr_in m) (sym (expr.rolls-Num i at)) ∙ in_is m (Expr-F.Num i at) ∙ expr.rolls-Num i at
  constant_in at x (Some (constant.Bool b)) = ap (expr_in m) (sym (expr.rolls-Bool b at)) ∙ in_is m (Expr-F.Expr::Bool b at) ∙ expr.rolls-Bool b at

  -- ---- expressions
  abbrev ExprLaw : Expr → Type 0
  ExprLaw x = is_text x ≡ true → with_values k (expr_in m x) ≡ expr_in m (with_values P x)

  abbrev AccessLaw : Access → Type 0
  AccessLaw a = is_access_text a ≡ true → access_with_values k (access_in m a) ≡ access_in m (access_with_values P a)

  abbrev Any : {A : Type 0} → A → Type 0
  Any y = Unit {0}

  abbrev Known : Type 0
  Known = Expr-F ((x : Expr) × ExprLaw x) ((y : Ty) × Any y) ((a : Access) × AccessLaw a) ((d : Decl) × Any d) ((v : Var) × Any v)

  abbrev bare : Known → Layer
  bare y = map-Expr _ _ _ _ _ _ _ _ _ _ (λ x. x.0) (λ x. x.0) (λ x. x.0) (λ x. x.0) (λ x. x.0) y

  parts_law : (y : Known) → over_layer of_text any_array (bare y) ≡ true → parts_in k (layer_in m (bare y)) ≡ layer_in m (parts_in P (bare y))
  parts_law (Expr-F.Num n at) t = refl
  parts_law (Expr-F.Expr::Bool b at) t = refl
  parts_law (Expr-F.Var v) t = refl
  parts_law (Expr-F.Cell v i) t = ap (Expr-F.Cell (var_in m v.0)) (i.1 t)
  parts_law (Expr-F.Load a) t = ap (λ z. Expr-F.Load z) (a.1 t)
  parts_law (Expr-F.Neg a at) t = ap (λ z. Expr-F.Neg z at) (a.1 t)
  parts_law (Expr-F.Not a at) t = ap (λ z. Expr-F.Not z at) (a.1 t)
  parts_law (Expr-F.Cast z s a at) t = ap (λ w. Expr-F.Cast z s w at) (a.1 t)
  parts_law (Expr-F.Bin o a b at) t =
      let q = and_parts (is_text a.0) _ t in
      ap (λ w. Expr-F.Bin o w (with_values k (expr_in m b.0)) at) (a.1 q.0) ∙ ap (λ w. Expr-F.Bin o (expr_in m (with_values P a.0)) w at) (b.1 q.1)

  expr_case : (y : Known) → ExprLaw (roll-Expr (bare y))
  expr_case y t =
      ap (with_values k) (in_is m x) ∙ values_is k (layer_in m x) ∙ by_inline (is_inline (roll-Expr x)) refl (sym (over_is of_text any_array x) ∙ t) ∙ sym (ap (expr_in m) (values_is P x))
    where
      x : Layer
      x = bare y

      inline : is_inline (roll-Expr (layer_in m x)) ≡ is_inline (roll-Expr x)
      inline = ap is_inline (sym (in_is m x)) ∙ copied_inline m (roll-Expr x)

      by_inline : (b : Bool) → is_inline (roll-Expr x) ≡ b → over_layer of_text any_array x ≡ true → values_layer k (layer_in m x) ≡ expr_in m (values_layer P x)
      by_inline true q u =
          let w = roll-Expr (layer_in m x) in
          ap (λ b. if b then constant_expr (span_of w) w (inline_value k w) else roll-Expr (parts_in k (layer_in m x))) (inline ∙ q)
          ∙ ap (λ z. constant_expr (span_of z) z (inline_value k z)) (sym (in_is m x))
          ∙ ap (λ s. constant_expr s (expr_in m (roll-Expr x)) (inline_value k (expr_in m (roll-Expr x)))) (span_stays x)
          ∙ ap (constant_expr (span_of (roll-Expr x)) (expr_in m (roll-Expr x))) (value_pulled (roll-Expr x) t)
          ∙ sym (constant_in (span_of (roll-Expr x)) (roll-Expr x) (inline_value P (roll-Expr x)))
          ∙ sym (ap (λ b. expr_in m (if b then constant_expr (span_of (roll-Expr x)) (roll-Expr x) (inline_value P (roll-Expr x)) else roll-Expr (parts_in P x))) q)
      by_inline false q u =
          let w = roll-Expr (layer_in m x) in
          ap (λ b. if b then constant_expr (span_of w) w (inline_value k w) else roll-Expr (parts_in k (layer_in m x))) (inline ∙ q)
          ∙ ap roll-Expr (parts_law y u)
          ∙ sym (in_is m (parts_in P x))
          ∙ sym (ap (λ b. expr_in m (if b then constant_expr (span_of (roll-Expr x)) (roll-Expr x) (inline_value P (roll-Expr x)) else roll-Expr (parts_in P x))) q)

  access_case : (y : Access-F ((x : Expr) × ExprLaw x) ((z : Ty) × Any z) ((a : Access) × AccessLaw a) ((d : Decl) × Any d) ((v : Var) × Any v)) → AccessLaw (roll-Access (map-Access _ _ _ _ _ _ _ _ _ _ (λ x. x.0) (λ x. x.0) (λ x. x.0) (λ x. x.0) (λ x. x.0) y))
  access_case y t =
      let x = map-Access _ _ _ _ _ Expr Ty Access Decl Var (λ x. x.0) (λ x. x.0) (λ x. x.0) (λ x. x.0) (λ x. x.0) y in
      ap (access_with_values k) (access_in_is m x) ∙ access_values_is k (access_layer_in m x)
      ∙ ap (λ w. roll-Access (record { size = x.size; at = w; unaligned = x.unaligned; span = x.span })) (y.at.1 (sym (access_over_is of_text any_array x) ∙ t))
      ∙ sym (access_in_is m (record { size = x.size; at = with_values P x.at; unaligned = x.unaligned; span = x.span }))
      ∙ sym (ap (access_in m) (access_values_is P x))

  pub values_commute : (x : Expr) → ExprLaw x
  values_commute =
      ind-Expr ExprLaw Any AccessLaw Any Any
      (λ z y is. subst (λ w. ExprLaw (roll-Expr w)) is (expr_case y))
      (λ z y is. tt)
      (λ z y is. subst (λ w. AccessLaw (roll-Access w)) is (access_case y))
      (λ z y is. tt)
      (λ z y is. tt)
