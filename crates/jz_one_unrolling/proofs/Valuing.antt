-- Where more is known the inline parts of an expression that have values have the same ones.
use Rattle.std.proofs.Common.{◌≡◌, List, [], ◌∷◌, Option, Some, None, Bool, true, false, refl, ap, sym, ◌∙◌, subst}
use Rattle.std.specs.Prelude.{not, is_some, if◌then◌else◌, map, option_map}
use Rattle.std.specs.List.{list_all}
use Rattle.std.proofs.lemmas.Bool.{and_parts}
use Rattle.jz_tree.specs.declared.expr.Expr.{Expr}
use Rattle.jz_tree.specs.declared.expr.Ty.{Ty}
use Rattle.jz_tree.specs.declared.expr.Access.{Access}
use Rattle.jz_tree.specs.declared.expr.Decl.{Decl}
use Rattle.jz_tree.specs.declared.expr.Var.{Var}
use Rattle.jz_tree.specs.declared.expr.Expr.TheOpen.{Expr-F, Access-F}
use Rattle.jz_tree.specs.declared.expr.Expr.TheViews.{roll-Expr, roll-Access}
use Rattle.jz_tree.specs.declared.expr.Expr.TheFolds.{ind-Expr, ind-Access, map-Expr, map-Access}
use Rattle.jz_tree.specs.declared.stmt.Lval.{Lval}
use Rattle.jz_tree.specs.declared.stmt.Lval.TheVariants as lval
use Rattle.jz_type_names.specs.Kinds.{is_inline}
use Rattle.jz_type_names.specs.Parts.{span_of}
use Rattle.jz_integers.specs.Integers.{KnownNumbers, inline_value}
use Rattle.jz_integers.specs.declared.constant.Constant.{Constant}
use Rattle.jz_meaning.specs.Statements.{Operation, assign, instruction, unset, meaningless}
use Rattle.jz_unroll.specs.Values.{constant_expr, has_no_cell, with_values, access_with_values, left_with_values, operation_with_values, InlineNames, is_inline_var, is_known, has_values, access_has_values, left_has_values, if_has_values, operation_has_values}
use Rattle.jz_unroll.specs.Unrolling.{KnowsLess}
use Rattle.jz_unroll.proofs.Layers.{Layer}
use Rattle.jz_unroll.proofs.Valued.{parts_in, values_layer, values_is, access_values_is, parts_layer, known_is, access_known_is}
use Rattle.jz_one_unrolling.proofs.Knowing.{Agree, either_known, less_one, less_other, value_grows}

module _ (names : InlineNames) (e m : KnownNumbers) (less : KnowsLess e m) where
  abbrev ExprLaw : Expr → Type 0
  ExprLaw x = has_values names e x ≡ true → with_values e x ≡ with_values m x

  abbrev AccessLaw : Access → Type 0
  AccessLaw a = access_has_values names e a ≡ true → access_with_values e a ≡ access_with_values m a

  abbrev Any : {A : Type 0} → A → Type 0
  Any y = Unit {0}

  abbrev Known : Type 0
  Known = Expr-F ((x : Expr) × ExprLaw x) ((y : Ty) × Any y) ((a : Access) × AccessLaw a) ((d : Decl) × Any d) ((v : Var) × Any v)

  abbrev bare : Known → Layer
  bare y = map-Expr _ _ _ _ _ _ _ _ _ _ (λ x. x.0) (λ x. x.0) (λ x. x.0) (λ x. x.0) (λ x. x.0) y

  parts_law : (y : Known) → parts_layer names e (bare y) ≡ true → parts_in e (bare y) ≡ parts_in m (bare y)
  parts_law (Expr-F.Num i at) ok = refl
  parts_law (Expr-F.Expr::Bool c at) ok = refl
  parts_law (Expr-F.Var v) ok = refl
  parts_law (Expr-F.Cell v i) ok = ap (Expr-F.Cell v.0) (i.1 (and_parts (not (is_inline_var names v.0)) _ ok).1)
  parts_law (Expr-F.Load a) ok = ap (λ z. Expr-F.Load z) (a.1 ok)
  parts_law (Expr-F.Neg x at) ok = ap (λ z. Expr-F.Neg z at) (x.1 ok)
  parts_law (Expr-F.Not x at) ok = ap (λ z. Expr-F.Not z at) (x.1 ok)
  parts_law (Expr-F.Cast z sign x at) ok = ap (λ y. Expr-F.Cast z sign y at) (x.1 ok)
  parts_law (Expr-F.Bin op a b at) ok =
      let both = and_parts (has_values names e a.0) _ ok in
      ap (λ y. Expr-F.Bin op y (with_values e b.0) at) (a.1 both.0) ∙ ap (λ y. Expr-F.Bin op (with_values m a.0) y at) (b.1 both.1)

  constant_law : (x : Expr) (v : Option Constant) → inline_value e x ≡ v → is_known names e x ≡ true → constant_expr (span_of x) x (inline_value e x) ≡ constant_expr (span_of x) x (inline_value m x)
  constant_law x None q ok = absurd (let p = and_parts (has_no_cell x) _ ok in let y : is_some (inline_value e x) ≡ false = ap is_some q in cc)
  constant_law x (Some c) q ok = ap (constant_expr (span_of x) x) (q ∙ sym (value_grows e m less x c q))

  expr_case : (y : Known) → ExprLaw (roll-Expr (bare y))
  expr_case y ok = values_is e x ∙ by_inline (is_inline (roll-Expr x)) refl (sym (known_is names e x) ∙ ok) ∙ sym (values_is m x)
    where
      x : Layer
      x = bare y

      by_inline : (b : Bool) → is_inline (roll-Expr x) ≡ b → (if is_inline (roll-Expr x) then is_known names e (roll-Expr x) else parts_layer names e x) ≡ true → values_layer e x ≡ values_layer m x
      by_inline true q k =
          let l = constant_law (roll-Expr x) (inline_value e (roll-Expr x)) refl (ap (λ b. if b then is_known names e (roll-Expr x) else parts_layer names e x) (sym q) ∙ k) in
          ap (λ b. if b then constant_expr (span_of (roll-Expr x)) (roll-Expr x) (inline_value e (roll-Expr x)) else roll-Expr (parts_in e x)) q
          ∙ l ∙ ap (λ b. if b then constant_expr (span_of (roll-Expr x)) (roll-Expr x) (inline_value m (roll-Expr x)) else roll-Expr (parts_in m x)) (sym q)
      by_inline false q k =
          let l = parts_law y (ap (λ b. if b then is_known names e (roll-Expr x) else parts_layer names e x) (sym q) ∙ k) in
          ap (λ b. if b then constant_expr (span_of (roll-Expr x)) (roll-Expr x) (inline_value e (roll-Expr x)) else roll-Expr (parts_in e x)) q
          ∙ ap roll-Expr l ∙ ap (λ b. if b then constant_expr (span_of (roll-Expr x)) (roll-Expr x) (inline_value m (roll-Expr x)) else roll-Expr (parts_in m x)) (sym q)

  access_case : (y : Access-F ((x : Expr) × ExprLaw x) ((z : Ty) × Any z) ((a : Access) × AccessLaw a) ((d : Decl) × Any d) ((v : Var) × Any v)) → AccessLaw (roll-Access (map-Access _ _ _ _ _ _ _ _ _ _ (λ x. x.0) (λ x. x.0) (λ x. x.0) (λ x. x.0) (λ x. x.0) y))
  access_case y ok =
      let x = map-Access _ _ _ _ _ Expr Ty Access Decl Var (λ x. x.0) (λ x. x.0) (λ x. x.0) (λ x. x.0) (λ x. x.0) y in
      let l = y.at.1 (sym (access_known_is names e x) ∙ ok) in
      access_values_is e x ∙ ap (λ z. roll-Access (record { size = x.size; at = z; unaligned = x.unaligned; span = x.span })) l ∙ sym (access_values_is m x)

  pub values_grow : (x : Expr) → ExprLaw x
  values_grow =
      ind-Expr ExprLaw Any AccessLaw Any Any
      (λ z y is. subst (λ k. ExprLaw (roll-Expr k)) is (expr_case y))
      (λ z y is. tt)
      (λ z y is. subst (λ k. AccessLaw (roll-Access k)) is (access_case y))
      (λ z y is. tt)
      (λ z y is. tt)

  pub access_grows : (a : Access) → AccessLaw a
  access_grows =
      ind-Access ExprLaw Any AccessLaw Any Any
      (λ z y is. subst (λ k. ExprLaw (roll-Expr k)) is (expr_case y))
      (λ z y is. tt)
      (λ z y is. subst (λ k. AccessLaw (roll-Access k)) is (access_case y))
      (λ z y is. tt)
      (λ z y is. tt)

  left_grows : (d : Lval) → left_has_values names e d ≡ true → left_with_values e d ≡ left_with_values m d
  left_grows (lval.Skip at) ok = refl
  left_grows (lval.Var v) ok = refl
  left_grows (lval.Cell v i) ok = ap (lval.Cell v) (values_grow i (and_parts (not (is_inline_var names v)) _ ok).1)
  left_grows (lval.Store a) ok = ap (λ z. lval.Store z) (access_grows a ok)

  all_grow : {A B : Type 0} (has : A → Bool) (f g : A → B) (xs : List A) → ((x : A) → has x ≡ true → f x ≡ g x) → list_all has xs ≡ true → map f xs ≡ map g xs
  all_grow has f g [] h ok = refl
  all_grow has f g (x ∷ xs) h ok =
      let p = and_parts (has x) _ ok in
      ap (λ y. y ∷ map f xs) (h x p.0) ∙ ap (λ ys. g x ∷ ys) (all_grow has f g xs h p.1)

  condition_grows : (c : Option Expr) → if_has_values names e c ≡ true → option_map (with_values e) c ≡ option_map (with_values m) c
  condition_grows None ok = refl
  condition_grows (Some x) ok = ap (λ (y : Expr). Some y) (values_grow x ok)

  pub operation_grows : (o : Operation) → operation_has_values names e o ≡ true → operation_with_values e o ≡ operation_with_values m o
  operation_grows (assign to o x c at) ok =
      let a = and_parts (list_all (left_has_values names e) to) _ ok in
      let b = and_parts (has_values names e x) _ a.1 in
      let c2 = and_parts (if_has_values names e c) _ b.1 in
      ap (λ ds. assign ds o (with_values e x) (option_map (with_values e) c) at) (all_grow (left_has_values names e) (left_with_values e) (left_with_values m) to left_grows a.0)
      ∙ (ap (λ y. assign (map (left_with_values m) to) o y (option_map (with_values e) c) at) (values_grow x b.0)
      ∙ ap (λ y. assign (map (left_with_values m) to) o (with_values m x) y at) (condition_grows c c2.0))
  operation_grows (instruction to n args at) ok =
      let a = and_parts (list_all (left_has_values names e) to) _ ok in
      ap (λ ds. instruction ds n (map (with_values e) args) at) (all_grow (left_has_values names e) (left_with_values e) (left_with_values m) to left_grows a.0)
      ∙ ap (λ ys. instruction (map (left_with_values m) to) n ys at) (all_grow (has_values names e) (with_values e) (with_values m) args values_grow a.1)
  operation_grows (unset vs) ok = refl
  operation_grows (meaningless at) ok = refl

-- ---- where what is known agrees

module _ (names : InlineNames) (e f : KnownNumbers) (a : Agree e f) where
  pub values_agree : (x : Expr) → has_values names e x ≡ true → has_values names f x ≡ true → with_values e x ≡ with_values f x
  values_agree x p q =
      values_grow names e (either_known e f) (less_one e f) x p ∙ sym (values_grow names f (either_known e f) (less_other e f a) x q)

  pub operations_agree : (o : Operation) → operation_has_values names e o ≡ true → operation_has_values names f o ≡ true → operation_with_values e o ≡ operation_with_values f o
  operations_agree o p q =
      operation_grows names e (either_known e f) (less_one e f) o p ∙ sym (operation_grows names f (either_known e f) (less_other e f a) o q)
