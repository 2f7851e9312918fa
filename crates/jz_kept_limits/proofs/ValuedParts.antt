-- An expression whose inline parts have values, by its outermost form.
use Rattle.std.proofs.Common.{◌≡◌, Bool, true, false, Option, Some, None, refl, sym, ap, ◌∙◌, subst}
use Rattle.std.specs.Prelude.{◌&&◌, not, is_some, if◌then◌else◌, ℕ, ℤ, List}
use Rattle.std.proofs.lemmas.Bool.{and_parts, true≢false}
use Rattle.jz_tree.specs.Size.{Size}
use Rattle.jz_tree.specs.Span.{Span}
use Rattle.jz_tree.specs.declared.expr.BinOp.{BinOp}
use Rattle.jz_tree.specs.declared.expr.Expr.{Expr}
use Rattle.jz_tree.specs.declared.expr.Expr.TheVariants as expr
use Rattle.jz_tree.specs.declared.expr.Ty.{Ty}
use Rattle.jz_tree.specs.declared.expr.Access.{Access}
use Rattle.jz_tree.specs.declared.expr.Decl.{Decl}
use Rattle.jz_tree.specs.declared.expr.Var.{Var}
use Rattle.jz_tree.specs.declared.expr.Expr.TheOpen.{Expr-F, Access-F}
use Rattle.jz_tree.specs.declared.expr.Expr.TheViews.{roll-Expr, roll-Access, out-Access, out-Var, out-roll-Access, roll-out-Var}
use Rattle.jz_tree.specs.declared.expr.Expr.TheFolds.{ind-Expr, ind-Access, map-Expr, map-Access}
use Rattle.jz_type_names.specs.Kinds.{is_inline}
use Rattle.jz_integers.specs.Integers.{KnownNumbers, inline_value}
use Rattle.jz_integers.specs.declared.constant.Constant.{Constant}
use Rattle.jz_meaning.specs.Values.{Ref, ref_of}
use Rattle.jz_unroll.specs.Values.{has_no_cell, InlineNames, is_inline_var, is_known, has_values, access_has_values}
use Rattle.jz_unroll.specs.Unrolling.{KnowsLess}
use Rattle.jz_unroll.specs.ValueLaws.{KnowsInline}
use Rattle.jz_unroll.proofs.Layers.{Layer, ref_rolled}
use Rattle.jz_unroll.proofs.InlineParts.{inline_is}
use Rattle.jz_unroll.proofs.Valued.{parts_layer, known_is, access_known_is}
use Rattle.jz_unroll.proofs.Parts.{not_true}
use Rattle.jz_one_unrolling.proofs.Knowing.{value_grows}

-- e: the numbers that are known
pub data IsValued (e : KnownNumbers) : Expr → Type 0 where
  an_inline : (x : Expr) (c : Constant) → is_inline x ≡ true → inline_value e x ≡ Some c → IsValued e x
  a_variable : (v : Var) → is_inline (expr.Var v) ≡ false → e (out-Var v).name (out-Var v).copy ≡ None → IsValued e (expr.Var v)
  a_cell : (v : Var) (i : Expr) → IsValued e i → IsValued e (expr.Cell v i)
  a_load : (a : Access) → IsValued e (out-Access a).at → IsValued e (expr.Load a)
  a_minus : (a : Expr) (at : Span) → is_inline a ≡ false → IsValued e a → IsValued e (expr.Neg a at)
  a_denial : (a : Expr) (at : Span) → is_inline a ≡ false → IsValued e a → IsValued e (expr.Not a at)
  a_cast : (z : Size) (signed : Bool) (a : Expr) (at : Span) → IsValued e a → IsValued e (expr.Cast z signed a at)
  of_two : (o : BinOp) (a b : Expr) (at : Span) → (is_inline a && is_inline b) ≡ false → IsValued e a → IsValued e b → IsValued e (expr.Bin o a b at)

-- what is known of no inline variable
none_by : (names : InlineNames) (e : KnownNumbers) (n : List ℕ) (c : ℕ) (o : Option ℤ) → KnowsInline names e → names n c ≡ false → e n c ≡ o → e n c ≡ None
none_by names e n c None only out q = q
none_by names e n c (Some i) only out q = absurd (true≢false (sym (only n c i q) ∙ out))

name_is : (v : Var) → (ref_of v).name ≡ (out-Var v).name
name_is v = ap (λ (r : Ref). r.name) (sym (ap ref_of (roll-out-Var v)) ∙ ref_rolled (out-Var v))

copy_is : (v : Var) → (ref_of v).copy ≡ (out-Var v).copy
copy_is v = ap (λ (r : Ref). r.copy) (sym (ap ref_of (roll-out-Var v)) ∙ ref_rolled (out-Var v))

pub unknown : (names : InlineNames) (e : KnownNumbers) → KnowsInline names e → (v : Var) → is_inline_var names v ≡ false → e (out-Var v).name (out-Var v).copy ≡ None
unknown names e only v out =
    none_by names e (out-Var v).name (out-Var v).copy (e (out-Var v).name (out-Var v).copy) only
    (ap (λ n. names n (out-Var v).copy) (sym (name_is v)) ∙ (ap (names (ref_of v).name) (sym (copy_is v)) ∙ out)) refl

module _ (names : InlineNames) (k e : KnownNumbers) (less : KnowsLess k e) (only : KnowsInline names e) where
  abbrev ExprLaw : Expr → Type 0
  ExprLaw x = has_values names k x ≡ true → IsValued e x

  abbrev AccessLaw : Access → Type 0
  AccessLaw a = access_has_values names k a ≡ true → IsValued e (out-Access a).at

  abbrev Any : {A : Type 0} → A → Type 0
  Any y = Unit {0}

  abbrev Known : Type 0
  Known = Expr-F ((x : Expr) × ExprLaw x) ((y : Ty) × Any y) ((a : Access) × AccessLaw a) ((d : Decl) × Any d) ((v : Var) × Any v)

  abbrev bare : Known → Layer
  bare y = map-Expr _ _ _ _ _ _ _ _ _ _ (λ x. x.0) (λ x. x.0) (λ x. x.0) (λ x. x.0) (λ x. x.0) y

  plain_case : (y : Known) → is_inline (roll-Expr (bare y)) ≡ false → parts_layer names k (bare y) ≡ true → IsValued e (roll-Expr (bare y))
  plain_case (Expr-F.Num i at) n ok = absurd (true≢false (sym (inline_is (Expr-F.Num i at)) ∙ n))
  plain_case (Expr-F.Expr::Bool c at) n ok = absurd (true≢false (sym (inline_is (Expr-F.Expr::Bool c at)) ∙ n))
  plain_case (Expr-F.Var v) n ok =
      subst (IsValued e) (sym (expr.rolls-Var v.0)) (a_variable v.0 (ap is_inline (sym (expr.rolls-Var v.0)) ∙ n) (unknown names e only v.0 (not_true (is_inline_var names v.0) ok)))
  plain_case (Expr-F.Cell v i) n ok =
      subst (IsValued e) (sym (expr.rolls-Cell v.0 i.0)) (a_cell v.0 i.0 (i.1 (and_parts (not (is_inline_var names v.0)) _ ok).1))
  plain_case (Expr-F.Load a) n ok = subst (IsValued e) (sym (expr.rolls-Load a.0)) (a_load a.0 (a.1 ok))
  plain_case (Expr-F.Neg x at) n ok = subst (IsValued e) (sym (expr.rolls-Neg x.0 at)) (a_minus x.0 at (sym (inline_is (Expr-F.Neg x.0 at)) ∙ n) (x.1 ok))
  plain_case (Expr-F.Not x at) n ok = subst (IsValued e) (sym (expr.rolls-Not x.0 at)) (a_denial x.0 at (sym (inline_is (Expr-F.Not x.0 at)) ∙ n) (x.1 ok))
  plain_case (Expr-F.Cast z sign x at) n ok = subst (IsValued e) (sym (expr.rolls-Cast z sign x.0 at)) (a_cast z sign x.0 at (x.1 ok))
  plain_case (Expr-F.Bin o a b at) n ok =
      let p = and_parts (has_values names k a.0) _ ok in
      subst (IsValued e) (sym (expr.rolls-Bin o a.0 b.0 at)) (of_two o a.0 b.0 at (sym (inline_is (Expr-F.Bin o a.0 b.0 at)) ∙ n) (a.1 p.0) (b.1 p.1))

  inline_case : (x : Expr) (c : Option Constant) → is_inline x ≡ true → inline_value k x ≡ c → is_some c ≡ true → IsValued e x
  inline_case x None n q ok = absurd cc
  inline_case x (Some c) n q ok = an_inline x c n (value_grows k e less x c q)

  expr_case : (y : Known) → ExprLaw (roll-Expr (bare y))
  expr_case y ok = by_inline (is_inline (roll-Expr (bare y))) refl (sym (known_is names k (bare y)) ∙ ok)
    where
      by_inline : (b : Bool) → is_inline (roll-Expr (bare y)) ≡ b → (if is_inline (roll-Expr (bare y)) then is_known names k (roll-Expr (bare y)) else parts_layer names k (bare y)) ≡ true → IsValued e (roll-Expr (bare y))
      by_inline true q h =
          inline_case (roll-Expr (bare y)) (inline_value k (roll-Expr (bare y))) q refl
          (and_parts (has_no_cell (roll-Expr (bare y))) _ (ap (λ b. if b then is_known names k (roll-Expr (bare y)) else parts_layer names k (bare y)) (sym q) ∙ h)).1
      by_inline false q h = plain_case y q (ap (λ b. if b then is_known names k (roll-Expr (bare y)) else parts_layer names k (bare y)) (sym q) ∙ h)

  access_case : (y : Access-F ((x : Expr) × ExprLaw x) ((z : Ty) × Any z) ((a : Access) × AccessLaw a) ((d : Decl) × Any d) ((v : Var) × Any v)) → AccessLaw (roll-Access (map-Access _ _ _ _ _ _ _ _ _ _ (λ x. x.0) (λ x. x.0) (λ x. x.0) (λ x. x.0) (λ x. x.0) y))
  access_case y ok =
      let x = map-Access _ _ _ _ _ Expr Ty Access Decl Var (λ x. x.0) (λ x. x.0) (λ x. x.0) (λ x. x.0) (λ x. x.0) y in
      subst (IsValued e) (sym (ap (λ (z : Access-F Expr Ty Access Decl Var). z.at) (out-roll-Access x))) (y.at.1 (sym (access_known_is names k x) ∙ ok))

  pub valued : (x : Expr) → ExprLaw x
  valued =
      ind-Expr ExprLaw Any AccessLaw Any Any
      (λ z y is. subst (λ w. ExprLaw (roll-Expr w)) is (expr_case y))
      (λ z y is. tt)
      (λ z y is. subst (λ w. AccessLaw (roll-Access w)) is (access_case y))
      (λ z y is. tt)
      (λ z y is. tt)

  pub access_valued : (a : Access) → AccessLaw a
  access_valued =
      ind-Access ExprLaw Any AccessLaw Any Any
      (λ z y is. subst (λ w. ExprLaw (roll-Expr w)) is (expr_case y))
      (λ z y is. tt)
      (λ z y is. subst (λ w. AccessLaw (roll-Access w)) is (access_case y))
      (λ z y is. tt)
      (λ z y is. tt)
