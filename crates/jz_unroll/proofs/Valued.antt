-- An expression whose inline parts are their values has the value and the numbers that it had.
use Rattle.std.proofs.Common.{◌≡◌, [], Option, Some, None, Bool, true, false, refl, ap, sym, ◌∙◌, subst}
use Rattle.std.specs.Prelude.{◌&&◌, not, is_some, if◌then◌else◌}
use Rattle.std.specs.Option.{option_or}
use Rattle.std.proofs.lemmas.Bool.{and_parts}
use Rattle.jz_tree.specs.Span.{Span}
use Rattle.jz_tree.specs.Size.{Size}
use Rattle.jz_tree.specs.Size.TheVariants.{S64}
use Rattle.jz_tree.specs.declared.expr.Expr.{Expr}
use Rattle.jz_tree.specs.declared.expr.Expr.TheVariants as expr
use Rattle.jz_tree.specs.declared.expr.Ty.{Ty}
use Rattle.jz_tree.specs.declared.expr.Access.{Access}
use Rattle.jz_tree.specs.declared.expr.Decl.{Decl}
use Rattle.jz_tree.specs.declared.expr.Var.{Var}
use Rattle.jz_tree.specs.declared.expr.Expr.TheOpen.{Expr-F, Access-F}
use Rattle.jz_tree.specs.declared.expr.Expr.TheViews.{roll-Expr, roll-Access}
use Rattle.jz_tree.specs.declared.expr.Expr.TheFolds.{para-roll-Expr, para-roll-Access, ind-Expr, ind-Access, map-Expr, map-Access}
use Rattle.jz_type_names.specs.Kinds.{is_inline}
use Rattle.jz_type_names.specs.Parts.{span_of}
use Rattle.jz_integers.specs.Integers.{KnownNumbers, inline_value}
use Rattle.jz_integers.specs.declared.constant.Constant.{Constant}
use Rattle.jz_integers.specs.declared.constant.Constant.TheVariants as constant
use Rattle.jz_runs.specs.Rules.{went}
use Rattle.jz_meaning.specs.Attempts.{Evaluation, and_then, defined}
use Rattle.jz_meaning.specs.States.{Value, State}
use Rattle.jz_meaning.specs.Operators.{is_settled, binary, negated, inverted, cast}
use Rattle.jz_meaning.specs.Values.{key_of, cell_key, index_at, cell_value, MemoryAccess, load_at, Meaning, right_wanted, left_wanted, with_right, run_binary, ref_of, access_of, own_size, evaluated}
use Rattle.jz_unroll.specs.Values.{constant_expr, has_no_cell, values_step, access_step, with_values, access_with_values, InlineNames, is_inline_var, is_known, known_step, has_values, access_has_values}
use Rattle.jz_unroll.specs.ValueLaws.{HoldsKnown, DiffersInline}
use Rattle.jz_unroll.proofs.Layers.{Layer, meaning_layer, meaning_is, access_is}
use Rattle.jz_unroll.proofs.Inline.{inline_exact}
use Rattle.jz_unroll.proofs.InlineParts.{no_size}

module _ (e : KnownNumbers) where
  abbrev pub parts_in : Layer → Layer
  parts_in x = map-Expr _ _ _ _ _ Expr Ty Access Decl Var (with_values e) (λ t. t) (access_with_values e) (λ d. d) (λ v. v) x

  abbrev pub values_layer : Layer → Expr
  values_layer x = if is_inline (roll-Expr x) then constant_expr (span_of (roll-Expr x)) (roll-Expr x) (inline_value e (roll-Expr x)) else roll-Expr (parts_in x)

  step_is : (x : Layer) → values_step e (map-Expr _ _ _ _ _ _ _ _ _ _ (λ y. (y, with_values e y)) (λ y. (y, tt)) (λ y. (y, access_with_values e y)) (λ y. (y, tt)) (λ y. (y, tt)) x) ≡ values_layer x
  step_is (Expr-F.Num n at) = refl
  step_is (Expr-F.Expr::Bool c at) = refl
  step_is (Expr-F.Var v) = refl
  step_is (Expr-F.Cell v i) = refl
  step_is (Expr-F.Load a) = refl
  step_is (Expr-F.Neg a at) = refl
  step_is (Expr-F.Not a at) = refl
  step_is (Expr-F.Cast z s a at) = refl
  step_is (Expr-F.Bin o a b at) = refl

  pub values_is : (x : Layer) → with_values e (roll-Expr x) ≡ values_layer x
  values_is x = para-roll-Expr Expr (Unit {0}) Access (Unit {0}) (Unit {0}) (values_step e) (λ t. tt) (access_step e) (λ d. tt) (λ v. tt) x ∙ step_is x

  pub access_values_is : (x : Access-F Expr Ty Access Decl Var) → access_with_values e (roll-Access x) ≡ roll-Access (record { size = x.size; at = with_values e x.at; unaligned = x.unaligned; span = x.span })
  access_values_is x = para-roll-Access Expr (Unit {0}) Access (Unit {0}) (Unit {0}) (values_step e) (λ t. tt) (access_step e) (λ d. tt) (λ v. tt) x

module _ (names : InlineNames) (e : KnownNumbers) where
  abbrev pub parts_layer : Layer → Bool
  parts_layer (Expr-F.Num n at) = true
  parts_layer (Expr-F.Expr::Bool b at) = true
  parts_layer (Expr-F.Var v) = not (is_inline_var names v)
  parts_layer (Expr-F.Cell v i) = not (is_inline_var names v) && has_values names e i
  parts_layer (Expr-F.Load a) = access_has_values names e a
  parts_layer (Expr-F.Neg a at) = has_values names e a
  parts_layer (Expr-F.Not a at) = has_values names e a
  parts_layer (Expr-F.Cast z s a at) = has_values names e a
  parts_layer (Expr-F.Bin o a b at) = has_values names e a && has_values names e b

  known_step_is : (x : Layer) → known_step names e (map-Expr _ _ _ _ _ _ _ _ _ _ (λ y. (y, has_values names e y)) (λ y. (y, tt)) (λ y. (y, access_has_values names e y)) (λ y. (y, tt)) (λ y. (y, tt)) x) ≡ (if is_inline (roll-Expr x) then is_known names e (roll-Expr x) else parts_layer x)
  known_step_is (Expr-F.Num n at) = refl
  known_step_is (Expr-F.Expr::Bool c at) = refl
  known_step_is (Expr-F.Var v) = refl
  known_step_is (Expr-F.Cell v i) = refl
  known_step_is (Expr-F.Load a) = refl
  known_step_is (Expr-F.Neg a at) = refl
  known_step_is (Expr-F.Not a at) = refl
  known_step_is (Expr-F.Cast z s a at) = refl
  known_step_is (Expr-F.Bin o a b at) = refl

  pub known_is : (x : Layer) → has_values names e (roll-Expr x) ≡ (if is_inline (roll-Expr x) then is_known names e (roll-Expr x) else parts_layer x)
  known_is x = para-roll-Expr Bool (Unit {0}) Bool (Unit {0}) (Unit {0}) (known_step names e) (λ t. tt) (λ a. a.at.1) (λ d. tt) (λ v. tt) x ∙ known_step_is x

  pub access_known_is : (x : Access-F Expr Ty Access Decl Var) → access_has_values names e (roll-Access x) ≡ has_values names e x.at
  access_known_is x = para-roll-Access Bool (Unit {0}) Bool (Unit {0}) (Unit {0}) (known_step names e) (λ t. tt) (λ a. a.at.1) (λ d. tt) (λ v. tt) x

  module _ (s t : State) (exactly : HoldsKnown e s) (differs : DiffersInline names s t) where
    abbrev ExprLaw : Expr → Type 0
    ExprLaw x = has_values names e x ≡ true → (own_size (with_values e x) ≡ own_size x) × ((w : Option Size) → evaluated (with_values e x) w t ≡ evaluated x w s)

    abbrev AccessLaw : Access → Type 0
    AccessLaw a = access_has_values names e a ≡ true → (at : State → Evaluation Value) × (access_of (access_with_values e a) ≡ record { size = (access_of a).size; at = at; unaligned = (access_of a).unaligned; span = (access_of a).span }) × (at t ≡ (access_of a).at s)

    abbrev Any : {A : Type 0} → A → Type 0
    Any y = Unit {0}

    abbrev Known : Type 0
    Known = Expr-F ((x : Expr) × ExprLaw x) ((y : Ty) × Any y) ((a : Access) × AccessLaw a) ((d : Decl) × Any d) ((v : Var) × Any v)

    abbrev bare : Known → Layer
    bare y = map-Expr _ _ _ _ _ _ _ _ _ _ (λ x. x.0) (λ x. x.0) (λ x. x.0) (λ x. x.0) (λ x. x.0) y

    not_false : (b : Bool) → not b ≡ true → b ≡ false
    not_false true q = absurd cc
    not_false false q = refl

    parts_law : (y : Known) → parts_layer (bare y) ≡ true → ((meaning_layer (parts_in e (bare y))).size ≡ (meaning_layer (bare y)).size) × ((w : Option Size) → (meaning_layer (parts_in e (bare y))).run w t ≡ (meaning_layer (bare y)).run w s)
    parts_law (Expr-F.Num i at) ok = (refl, λ w. refl)
    parts_law (Expr-F.Expr::Bool c at) ok = (refl, λ w. refl)
    parts_law (Expr-F.Var v) ok = (refl, λ w. ap (defined (ref_of v.0).span) (differs.variables (key_of (ref_of v.0)) (not_false _ ok)))
    parts_law (Expr-F.Cell v i) ok =
        let q = and_parts (not (is_inline_var names v.0)) _ ok in let l = i.1 q.1 in let r = ref_of v.0 in
        (refl, λ w. ap (λ g. and_then g (λ u. cell_value r u t.store)) (l.1 (Some S64)) ∙ ap (and_then (evaluated i.0 (Some S64) s)) (λ j u. and_then (index_at r u) (λ n. defined r.span (differs.variables (cell_key r n) (not_false _ q.0) j))))
    parts_law (Expr-F.Load a) ok =
        let l = a.1 ok in let p = access_of a.0 in (
          ap (λ (m : MemoryAccess). m.size) l.1,
          λ w. ap (λ (m : MemoryAccess). and_then (m.at t) (λ v. load_at m w v t.memory)) l.1 ∙ ap (λ g. and_then g (λ v. load_at p w v t.memory)) l.2 ∙ ap (λ m. and_then (p.at s) (λ v. load_at p w v m)) differs.memory,
        )
    parts_law (Expr-F.Neg x at) ok =
        let l = x.1 ok in (l.0, λ w. ap (λ z. and_then (evaluated (with_values e x.0) (option_or w z) t) (λ v. defined at (negated v))) l.0 ∙ ap (λ g. and_then g (λ v. defined at (negated v))) (l.1 (option_or w (own_size x.0))))
    parts_law (Expr-F.Not x at) ok =
        let l = x.1 ok in (l.0, λ w. ap (λ z. and_then (evaluated (with_values e x.0) (option_or w z) t) (λ v. went [] (inverted v))) l.0 ∙ ap (λ g. and_then g (λ v. went [] (inverted v))) (l.1 (option_or w (own_size x.0))))
    parts_law (Expr-F.Cast z sign x at) ok =
        let l = x.1 ok in (refl, λ w. ap (λ y. and_then (evaluated (with_values e x.0) y t) (λ v. defined at (cast z sign v))) l.0 ∙ ap (λ g. and_then g (λ v. defined at (cast z sign v))) (l.1 (own_size x.0)))
    parts_law (Expr-F.Bin op a b at) ok =
        let both = and_parts (has_values names e a.0) _ ok in
        let l = a.1 both.0 in let r = b.1 both.1 in (
          (let p = l.0 in let q = r.0 in rw (p, q)),
          λ w. let z = left_wanted op w (own_size a.0) (own_size b.0) in
              ap (λ p. run_binary op (evaluated (with_values e a.0)) (evaluated (with_values e b.0)) at (left_wanted op w p (own_size (with_values e b.0))) t) l.0
              ∙ ap (λ p. run_binary op (evaluated (with_values e a.0)) (evaluated (with_values e b.0)) at (left_wanted op w (own_size a.0) p) t) r.0
              ∙ ap (λ g. and_then g (with_right op (evaluated (with_values e b.0)) at z t)) (l.1 z)
              ∙ ap (and_then (evaluated a.0 z s)) (λ i v. ap (λ g. if is_settled op v then went [] v else and_then g (λ y. binary op at z v y)) (r.1 (right_wanted op z)) i),
        )

    -- an inline part
    constant_law : (x : Expr) (at : Span) (c : Option Constant) → inline_value e x ≡ c → is_inline x ≡ true → is_known names e x ≡ true → (own_size (constant_expr at x c) ≡ own_size x) × ((w : Option Size) → evaluated (constant_expr at x c) w t ≡ evaluated x w s)
    constant_law x at None q inline ok = absurd (let p = and_parts (has_no_cell x) _ ok in let y : is_some (inline_value e x) ≡ false = ap is_some q in cc)
    constant_law x at (Some (constant.Int i)) q inline ok =
        let p = and_parts (has_no_cell x) _ ok in (
          ap (λ k. own_size k) (sym (expr.rolls-Num i at)) ∙ ap (λ (m : Meaning). m.size) (meaning_is (Expr-F.Num i at)) ∙ sym (no_size x inline),
          λ w. ap (λ k. evaluated k w t) (sym (expr.rolls-Num i at)) ∙ ap (λ (m : Meaning). m.run w t) (meaning_is (Expr-F.Num i at)) ∙ sym (inline_exact e s exactly x p.0 (constant.Int i) q w),
        )
    constant_law x at (Some (constant.Bool b)) q inline ok =
        let p = and_parts (has_no_cell x) _ ok in (
          ap (λ k. own_size k) (sym (expr.rolls-Bool b at)) ∙ ap (λ (m : Meaning). m.size) (meaning_is (Expr-F.Expr::Bool b at)) ∙ sym (no_size x inline),
          λ w. ap (λ k. evaluated k w t) (sym (expr.rolls-Bool b at)) ∙ ap (λ (m : Meaning). m.run w t) (meaning_is (Expr-F.Expr::Bool b at)) ∙ sym (inline_exact e s exactly x p.0 (constant.Bool b) q w),
        )

    expr_case : (y : Known) → ExprLaw (roll-Expr (bare y))
    expr_case y ok =
        let z = by_inline (is_inline (roll-Expr x)) refl (sym (known_is x) ∙ ok) in
        (ap own_size (values_is e x) ∙ z.0, λ w. ap (λ k. evaluated k w t) (values_is e x) ∙ z.1 w)
      where
        x : Layer
        x = bare y

        by_inline : (b : Bool) → is_inline (roll-Expr x) ≡ b → (if is_inline (roll-Expr x) then is_known names e (roll-Expr x) else parts_layer x) ≡ true → (own_size (values_layer e x) ≡ own_size (roll-Expr x)) × ((w : Option Size) → evaluated (values_layer e x) w t ≡ evaluated (roll-Expr x) w s)
        by_inline true q k =
            let l = constant_law (roll-Expr x) (span_of (roll-Expr x)) (inline_value e (roll-Expr x)) refl q (ap (λ b. if b then is_known names e (roll-Expr x) else parts_layer x) (sym q) ∙ k) in
            let f : values_layer e x ≡ constant_expr (span_of (roll-Expr x)) (roll-Expr x) (inline_value e (roll-Expr x)) = ap (λ b. if b then constant_expr (span_of (roll-Expr x)) (roll-Expr x) (inline_value e (roll-Expr x)) else roll-Expr (parts_in e x)) q in
            (ap own_size f ∙ l.0, λ w. ap (λ k. evaluated k w t) f ∙ l.1 w)
        by_inline false q k =
            let l = parts_law y (ap (λ b. if b then is_known names e (roll-Expr x) else parts_layer x) (sym q) ∙ k) in
            let f : values_layer e x ≡ roll-Expr (parts_in e x) = ap (λ b. if b then constant_expr (span_of (roll-Expr x)) (roll-Expr x) (inline_value e (roll-Expr x)) else roll-Expr (parts_in e x)) q in (
              ap own_size f ∙ ap (λ (m : Meaning). m.size) (meaning_is (parts_in e x)) ∙ l.0 ∙ ap (λ (m : Meaning). m.size) (sym (meaning_is x)),
              λ w. ap (λ k. evaluated k w t) f ∙ ap (λ (m : Meaning). m.run w t) (meaning_is (parts_in e x)) ∙ l.1 w ∙ ap (λ (m : Meaning). m.run w s) (sym (meaning_is x)),
            )

    access_case : (y : Access-F ((x : Expr) × ExprLaw x) ((z : Ty) × Any z) ((a : Access) × AccessLaw a) ((d : Decl) × Any d) ((v : Var) × Any v)) → AccessLaw (roll-Access (map-Access _ _ _ _ _ _ _ _ _ _ (λ x. x.0) (λ x. x.0) (λ x. x.0) (λ x. x.0) (λ x. x.0) y))
    access_case y ok =
        let x = map-Access _ _ _ _ _ Expr Ty Access Decl Var (λ x. x.0) (λ x. x.0) (λ x. x.0) (λ x. x.0) (λ x. x.0) y in
        let n = access_is x in
        let m = ap access_of (access_values_is e x) ∙ access_is (record { size = x.size; at = with_values e x.at; unaligned = x.unaligned; span = x.span }) in
        let l = y.at.1 (sym (access_known_is x) ∙ ok) in (
          evaluated (with_values e y.at.0) (Some S64),
          m ∙ ap (λ (p : MemoryAccess). record { size = p.size; at = evaluated (with_values e y.at.0) (Some S64); unaligned = p.unaligned; span = p.span }) (sym n),
          l.1 (Some S64) ∙ ap (λ (p : MemoryAccess). p.at s) (sym n),
        )

    -- where each inline part has a value, and the states differ in inline variables alone
    pub values_so : (x : Expr) → ExprLaw x
    values_so =
        ind-Expr ExprLaw Any AccessLaw Any Any
        (λ z y is. subst (λ k. ExprLaw (roll-Expr k)) is (expr_case y))
        (λ z y is. tt)
        (λ z y is. subst (λ k. AccessLaw (roll-Access k)) is (access_case y))
        (λ z y is. tt)
        (λ z y is. tt)

    pub access_so : (a : Access) → AccessLaw a
    access_so =
        ind-Access ExprLaw Any AccessLaw Any Any
        (λ z y is. subst (λ k. ExprLaw (roll-Expr k)) is (expr_case y))
        (λ z y is. tt)
        (λ z y is. subst (λ k. AccessLaw (roll-Access k)) is (access_case y))
        (λ z y is. tt)
        (λ z y is. tt)
