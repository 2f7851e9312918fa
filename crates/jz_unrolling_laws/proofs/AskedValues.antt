-- An expression of which nothing passes a limit has values in place of its inline parts.
use Rattle.std.proofs.Common.{◌≡◌, List, [], ◌∷◌, ◌++◌, Option, Some, Bool, true, false, refl, ap, sym, ◌∙◌, subst}
use Rattle.std.specs.Prelude.{◌&&◌, not, is_none, is_some, if◌then◌else◌}
use Rattle.std.proofs.lemmas.Bool.{and_parts, and_from}
use Rattle.jz_tree.specs.Span.{Span}
use Rattle.jz_tree.specs.declared.expr.Expr.{Expr}
use Rattle.jz_tree.specs.declared.expr.Ty.{Ty}
use Rattle.jz_tree.specs.declared.expr.Access.{Access}
use Rattle.jz_tree.specs.declared.expr.Decl.{Decl}
use Rattle.jz_tree.specs.declared.expr.Var.{Var}
use Rattle.jz_tree.specs.declared.expr.Expr.TheOpen.{Expr-F, Access-F}
use Rattle.jz_tree.specs.declared.expr.Expr.TheViews.{out-Var, roll-Expr, roll-Access}
use Rattle.jz_tree.specs.declared.expr.Expr.TheFolds.{para-Access, para-roll-Expr, para-roll-Access, ind-Expr, map-Expr, map-Access}
use Rattle.jz_type_names.specs.Kinds.{is_inline}
use Rattle.jz_type_names.specs.Parts.{span_of}
use Rattle.jz_integers.specs.Integers.{KnownNumbers, inline_value}
use Rattle.jz_meaning.specs.Values.{ref_of}
use Rattle.jz_limits.specs.declared.limit.Limit.{Limit}
use Rattle.jz_limits.specs.declared.limit.Limit.TheVariants.{InlineWidth}
use Rattle.jz_limits.specs.Asked.{Told, place_or, unless, told_as, told_step, access_step, told, part_widths, whole}
use Rattle.jz_unroll.specs.Values.{Beside, cells_step, has_no_cell, InlineNames, is_inline_var, is_known, has_values, access_has_values}
use Rattle.jz_unroll.proofs.InlineParts.{inline_layer, inline_is}
use Rattle.jz_unroll.proofs.Valued.{parts_layer, known_is, access_known_is}
use Rattle.jz_unroll.proofs.Layers.{Layer}
use Rattle.jz_unrolling_laws.specs.AskedLaws.{is_named, named_step, has_named, access_named}

-- ---- which variables are inline

module _ (names : InlineNames) where
  abbrev pub named_layer : Layer → Bool
  named_layer (Expr-F.Num n at) = true
  named_layer (Expr-F.Expr::Bool b at) = true
  named_layer (Expr-F.Var v) = is_named names v
  named_layer (Expr-F.Cell v i) = not (is_inline_var names v) && has_named names i
  named_layer (Expr-F.Load a) = access_named names a
  named_layer (Expr-F.Neg a at) = has_named names a
  named_layer (Expr-F.Not a at) = has_named names a
  named_layer (Expr-F.Cast z s a at) = has_named names a
  named_layer (Expr-F.Bin o a b at) = has_named names a && has_named names b

  named_step_is : (x : Layer) → named_step names (map-Expr _ _ _ _ _ _ _ _ _ _ (λ y. (y, has_named names y)) (λ y. (y, tt)) (λ y. (y, access_named names y)) (λ y. (y, tt)) (λ y. (y, tt)) x) ≡ named_layer x
  named_step_is (Expr-F.Num n at) = refl
  named_step_is (Expr-F.Expr::Bool b at) = refl
  named_step_is (Expr-F.Var v) = refl
  named_step_is (Expr-F.Cell v i) = refl
  named_step_is (Expr-F.Load a) = refl
  named_step_is (Expr-F.Neg a at) = refl
  named_step_is (Expr-F.Not a at) = refl
  named_step_is (Expr-F.Cast z s a at) = refl
  named_step_is (Expr-F.Bin o a b at) = refl

  pub named_is : (x : Layer) → has_named names (roll-Expr x) ≡ named_layer x
  named_is x = para-roll-Expr Bool (Unit {0}) Bool (Unit {0}) (Unit {0}) (named_step names) (λ t. tt) (λ a. a.at.1) (λ d. tt) (λ v. tt) x ∙ named_step_is x

  pub access_named_is : (x : Access-F Expr Ty Access Decl Var) → access_named names (roll-Access x) ≡ has_named names x.at
  access_named_is x = para-roll-Access Bool (Unit {0}) Bool (Unit {0}) (Unit {0}) (named_step names) (λ t. tt) (λ a. a.at.1) (λ d. tt) (λ v. tt) x

-- ---- an inline expression has no cell

abbrev access_no_cell : Access → Bool
access_no_cell = para-Access Bool (Unit {0}) Bool (Unit {0}) (Unit {0}) cells_step (λ t. tt) (λ a. a.at.1) (λ d. tt) (λ v. tt)

abbrev cells_layer : Layer → Bool
cells_layer (Expr-F.Num n at) = true
cells_layer (Expr-F.Expr::Bool b at) = true
cells_layer (Expr-F.Var v) = is_none (ref_of v).cell
cells_layer (Expr-F.Cell v i) = has_no_cell i
cells_layer (Expr-F.Load a) = access_no_cell a
cells_layer (Expr-F.Neg a at) = has_no_cell a
cells_layer (Expr-F.Not a at) = has_no_cell a
cells_layer (Expr-F.Cast z s a at) = has_no_cell a
cells_layer (Expr-F.Bin o a b at) = has_no_cell a && has_no_cell b

cells_step_is : (x : Layer) → cells_step (map-Expr _ _ _ _ _ _ _ _ _ _ (λ y. (y, has_no_cell y)) (λ y. (y, tt)) (λ y. (y, access_no_cell y)) (λ y. (y, tt)) (λ y. (y, tt)) x) ≡ cells_layer x
cells_step_is (Expr-F.Num n at) = refl
cells_step_is (Expr-F.Expr::Bool b at) = refl
cells_step_is (Expr-F.Var v) = refl
cells_step_is (Expr-F.Cell v i) = refl
cells_step_is (Expr-F.Load a) = refl
cells_step_is (Expr-F.Neg a at) = refl
cells_step_is (Expr-F.Not a at) = refl
cells_step_is (Expr-F.Cast z s a at) = refl
cells_step_is (Expr-F.Bin o a b at) = refl

cells_is : (x : Layer) → has_no_cell (roll-Expr x) ≡ cells_layer x
cells_is x = para-roll-Expr Bool (Unit {0}) Bool (Unit {0}) (Unit {0}) cells_step (λ t. tt) (λ a. a.at.1) (λ d. tt) (λ v. tt) x ∙ cells_step_is x

abbrev Any : {A : Type 0} → A → Type 0
Any y = Unit {0}

module _ (names : InlineNames) where
  abbrev CellLaw : Expr → Type 0
  CellLaw x = is_inline x ≡ true → has_named names x ≡ true → has_no_cell x ≡ true

  abbrev Celled : Type 0
  Celled = Expr-F ((x : Expr) × CellLaw x) ((y : Ty) × Any y) ((a : Access) × Any a) ((d : Decl) × Any d) ((v : Var) × Any v)

  abbrev bare_cells : Celled → Layer
  bare_cells y = map-Expr _ _ _ _ _ _ _ _ _ _ (λ x. x.0) (λ x. x.0) (λ x. x.0) (λ x. x.0) (λ x. x.0) y

  cells_law : (y : Celled) → inline_layer (bare_cells y) ≡ true → named_layer names (bare_cells y) ≡ true → cells_layer (bare_cells y) ≡ true
  cells_law (Expr-F.Num n at) i m = refl
  cells_law (Expr-F.Expr::Bool b at) i m = refl
  cells_law (Expr-F.Var v) i m = sym (ap (λ b. if b then is_none (ref_of v.0).cell else not (is_inline_var names v.0)) i) ∙ m
  cells_law (Expr-F.Cell v j) i m = absurd cc
  cells_law (Expr-F.Load a) i m = absurd cc
  cells_law (Expr-F.Neg a at) i m = a.1 i m
  cells_law (Expr-F.Not a at) i m = a.1 i m
  cells_law (Expr-F.Cast z s a at) i m = absurd cc
  cells_law (Expr-F.Bin o a b at) i m =
      let p = and_parts (is_inline a.0) _ i in let q = and_parts (has_named names a.0) _ m in
      and_from (has_no_cell a.0) (has_no_cell b.0) (a.1 p.0 q.0) (b.1 p.1 q.1)

  cell_case : (y : Celled) → CellLaw (roll-Expr (bare_cells y))
  cell_case y i m = cells_is (bare_cells y) ∙ cells_law y (sym (inline_is (bare_cells y)) ∙ i) (sym (named_is names (bare_cells y)) ∙ m)

  pub no_cells : (x : Expr) → CellLaw x
  no_cells =
      ind-Expr CellLaw Any Any Any Any
      (λ z y is. subst (λ k. CellLaw (roll-Expr k)) is (cell_case y))
      (λ z y is. tt)
      (λ z y is. tt)
      (λ z y is. tt)
      (λ z y is. tt)

-- ---- what is asked of it

no_limit : (b : Bool) (l : Limit) → unless b l ≡ [] → b ≡ true
no_limit true l e = refl
no_limit false l e = absurd cc

nothing_first : {A : Type 0} (xs ys : List A) → xs ++ ys ≡ [] → (xs ≡ []) × (ys ≡ [])
nothing_first [] ys e = (refl, e)
nothing_first (x ∷ xs) ys e = absurd cc

module _ (e : KnownNumbers) where
  abbrev pub access_told : Access → Told
  access_told = para-Access Told (Unit {0}) Told (Unit {0}) (Unit {0}) (told_step e) (λ t. tt) (access_step e) (λ d. tt) (λ v. tt)

  abbrev pub paired : Layer → Beside Told Told
  paired x = map-Expr _ _ _ _ _ _ _ _ _ _ (λ y. (y, told e y)) (λ y. (y, tt)) (λ y. (y, access_told y)) (λ y. (y, tt)) (λ y. (y, tt)) x

  whole_is : (x : Layer) → whole (paired x) ≡ roll-Expr x
  whole_is (Expr-F.Num n at) = refl
  whole_is (Expr-F.Expr::Bool b at) = refl
  whole_is (Expr-F.Var v) = refl
  whole_is (Expr-F.Cell v i) = refl
  whole_is (Expr-F.Load a) = refl
  whole_is (Expr-F.Neg a at) = refl
  whole_is (Expr-F.Not a at) = refl
  whole_is (Expr-F.Cast z s a at) = refl
  whole_is (Expr-F.Bin o a b at) = refl

  pub told_is : (x : Layer) → told e (roll-Expr x) ≡ told_as e (is_inline (roll-Expr x)) (inline_value e (roll-Expr x)) (span_of (roll-Expr x)) (paired x)
  told_is x =
      para-roll-Expr Told (Unit {0}) Told (Unit {0}) (Unit {0}) (told_step e) (λ t. tt) (access_step e) (λ d. tt) (λ v. tt) x
      ∙ ap (λ w. told_as e (is_inline w) (inline_value e w) (span_of w) (paired x)) (whole_is x)

  pub access_told_is : (x : Access-F Expr Ty Access Decl Var) → (place : Option Span) → (access_told (roll-Access x)).widths place ≡ (told e x.at).widths (Some x.span)
  access_told_is x place = ap (λ (t : Told). t.widths place) (para-roll-Access Told (Unit {0}) Told (Unit {0}) (Unit {0}) (told_step e) (λ t. tt) (access_step e) (λ d. tt) (λ v. tt) x)

module _ (names : InlineNames) (e : KnownNumbers) where
  -- nothing is told of it, where it stands
  abbrev ExprLaw : Expr → Type 0
  ExprLaw x = has_named names x ≡ true → (place : Option Span) → (told e x).widths place ≡ [] → has_values names e x ≡ true

  abbrev AccessLaw : Access → Type 0
  AccessLaw a = access_named names a ≡ true → (place : Option Span) → (access_told e a).widths place ≡ [] → access_has_values names e a ≡ true

  abbrev Asked : Type 0
  Asked = Expr-F ((x : Expr) × ExprLaw x) ((y : Ty) × Any y) ((a : Access) × AccessLaw a) ((d : Decl) × Any d) ((v : Var) × Any v)

  abbrev bare : Asked → Layer
  bare y = map-Expr _ _ _ _ _ _ _ _ _ _ (λ x. x.0) (λ x. x.0) (λ x. x.0) (λ x. x.0) (λ x. x.0) y

  parts_law : (y : Asked) → named_layer names (bare y) ≡ true → inline_layer (bare y) ≡ false → (place : Option Span) → part_widths e (paired e (bare y)) place ≡ [] → parts_layer names e (bare y) ≡ true
  parts_law (Expr-F.Num n at) m i place t = refl
  parts_law (Expr-F.Expr::Bool b at) m i place t = refl
  parts_law (Expr-F.Var v) m i place t = sym (ap (λ b. if b then is_none (ref_of v.0).cell else not (is_inline_var names v.0)) i) ∙ m
  parts_law (Expr-F.Cell v j) m i place t =
      let q = and_parts (not (is_inline_var names v.0)) _ m in and_from (not (is_inline_var names v.0)) (has_values names e j.0) q.0 (j.1 q.1 (Some (out-Var v.0).span) t)
  parts_law (Expr-F.Load a) m i place t = a.1 m place t
  parts_law (Expr-F.Neg a at) m i place t = a.1 m place t
  parts_law (Expr-F.Not a at) m i place t = a.1 m place t
  parts_law (Expr-F.Cast z s a at) m i place t = a.1 m place t
  parts_law (Expr-F.Bin o a b at) m i place t =
      let q = and_parts (has_named names a.0) _ m in let n = nothing_first ((told e a.0).widths place) ((told e b.0).widths place) t in
      and_from (has_values names e a.0) (has_values names e b.0) (a.1 q.0 place n.0) (b.1 q.1 place n.1)

  expr_case : (y : Asked) → ExprLaw (roll-Expr (bare y))
  expr_case y m place t = known_is names e x ∙ by_inline (is_inline (roll-Expr x)) refl
    where
      x : Layer
      x = bare y

      told_so : (b : Bool) → is_inline (roll-Expr x) ≡ b → (told_as e b (inline_value e (roll-Expr x)) (span_of (roll-Expr x)) (paired e x)).widths place ≡ []
      told_so b q = sym (ap (λ (k : Told). k.widths place) (told_is e x) ∙ ap (λ c. (told_as e c (inline_value e (roll-Expr x)) (span_of (roll-Expr x)) (paired e x)).widths place) q) ∙ t

      by_inline : (b : Bool) → is_inline (roll-Expr x) ≡ b → (if is_inline (roll-Expr x) then is_known names e (roll-Expr x) else parts_layer names e x) ≡ true
      by_inline true q =
          ap (λ b. if b then is_known names e (roll-Expr x) else parts_layer names e x) q
          ∙ and_from (has_no_cell (roll-Expr x)) (is_some (inline_value e (roll-Expr x))) (no_cells names (roll-Expr x) q m) (no_limit (is_some (inline_value e (roll-Expr x))) (InlineWidth (place_or place (span_of (roll-Expr x)))) (told_so true q))
      by_inline false q =
          ap (λ b. if b then is_known names e (roll-Expr x) else parts_layer names e x) q
          ∙ parts_law y (sym (named_is names x) ∙ m) (sym (inline_is x) ∙ q) place (told_so false q)

  access_case : (y : Access-F ((x : Expr) × ExprLaw x) ((z : Ty) × Any z) ((a : Access) × AccessLaw a) ((d : Decl) × Any d) ((v : Var) × Any v)) → AccessLaw (roll-Access (map-Access _ _ _ _ _ _ _ _ _ _ (λ x. x.0) (λ x. x.0) (λ x. x.0) (λ x. x.0) (λ x. x.0) y))
  access_case y m place t =
      let x = map-Access _ _ _ _ _ Expr Ty Access Decl Var (λ x. x.0) (λ x. x.0) (λ x. x.0) (λ x. x.0) (λ x. x.0) y in
      access_known_is names e x ∙ y.at.1 (sym (access_named_is names x) ∙ m) (Some y.span) (sym (access_told_is e x place) ∙ t)

  -- where nothing is told of it, each of its inline parts has a value
  pub asked_values : (x : Expr) → ExprLaw x
  asked_values =
      ind-Expr ExprLaw Any AccessLaw Any Any
      (λ z y is. subst (λ k. ExprLaw (roll-Expr k)) is (expr_case y))
      (λ z y is. tt)
      (λ z y is. subst (λ k. AccessLaw (roll-Access k)) is (access_case y))
      (λ z y is. tt)
      (λ z y is. tt)
