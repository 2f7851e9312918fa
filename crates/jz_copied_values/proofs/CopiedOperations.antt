-- An expression and an operation of a copied body have values where those of the body have them.
use Rattle.std.proofs.Common.{◌≡◌, ℕ, List, [], ◌∷◌, map, Option, Some, None, Bool, true, refl, ap, sym, ◌∙◌, subst}
use Rattle.std.specs.Prelude.{◌&&◌, not, is_none, is_some, if◌then◌else◌, option_map}
use Rattle.std.specs.List.{list_all}
use Rattle.std.proofs.lemmas.Bool.{and_parts}
use Rattle.jz_tree.specs.declared.expr.Expr.{Expr}
use Rattle.jz_tree.specs.declared.expr.Expr.TheVariants as expr
use Rattle.jz_tree.specs.declared.expr.Ty.{Ty}
use Rattle.jz_tree.specs.declared.expr.Access.{Access}
use Rattle.jz_tree.specs.declared.expr.Decl.{Decl}
use Rattle.jz_tree.specs.declared.expr.Var.{Var}
use Rattle.jz_tree.specs.declared.expr.Expr.TheOpen.{Expr-F, Access-F}
use Rattle.jz_tree.specs.declared.expr.Expr.TheViews.{roll-Expr, roll-Access}
use Rattle.jz_tree.specs.declared.expr.Expr.TheFolds.{para-roll-Access, ind-Expr, ind-Access, map-Expr, map-Access}
use Rattle.jz_tree.specs.declared.stmt.Lval.{Lval}
use Rattle.jz_tree.specs.declared.stmt.Lval.TheVariants as lval
use Rattle.jz_type_names.specs.Kinds.{is_inline}
use Rattle.jz_integers.specs.Integers.{KnownNumbers, inline_value}
use Rattle.jz_integers.specs.declared.constant.Constant.{Constant}
use Rattle.jz_meaning.specs.Statements.{Operation, assign, instruction, unset, meaningless}
use Rattle.jz_meaning.specs.Values.{Ref, ref_of}
use Rattle.jz_unrolling_laws.specs.Names.{Names, var_in, expr_in, access_in, lval_in, op_in}
use Rattle.jz_unrolling_laws.proofs.Reading.{layer_in, in_is, access_layer_in, access_in_is, over_layer, over_is, access_over_is, ref_so}
use Rattle.jz_unrolling_laws.proofs.Renaming.{in_var}
use Rattle.jz_unroll.specs.Values.{cells_step, has_no_cell, InlineNames, is_inline_var, is_known, has_values, access_has_values, left_has_values, if_has_values, operation_has_values}
use Rattle.jz_unroll.specs.Unrolling.{HasValue}
use Rattle.jz_unroll.proofs.Layers.{Layer}
use Rattle.jz_unroll.proofs.Inline.{access_no_cell, cells_layer, cells_is}
use Rattle.jz_unroll.proofs.Valued.{parts_layer, known_is, access_known_is}
use Rattle.jz_unrolling_laws.specs.AskedLaws.{of_text, any_array, is_text, is_access_text}
use Rattle.jz_unrolling_laws.specs.CalledBodies.{Inlines, in_source, IsTextIf, AreTexts, IsNamedLeft, AreNamedLefts, IsNamedOp}
use Rattle.jz_unrolling_laws.proofs.CopiedValues.{copied_inline, copied_value}
use Rattle.jz_copied_values.proofs.CopiedWholes.{whole_split}

abbrev Any : {A : Type 0} → A → Type 0
Any y = Unit {0}

-- ---- variables that are no cells

module _ (m : Names) where
  abbrev CellLaw : Expr → Type 0
  CellLaw x = has_no_cell (expr_in m x) ≡ has_no_cell x

  abbrev AccessCells : Access → Type 0
  AccessCells a = access_no_cell (access_in m a) ≡ access_no_cell a

  abbrev Celled : Type 0
  Celled = Expr-F ((x : Expr) × CellLaw x) ((y : Ty) × Any y) ((a : Access) × AccessCells a) ((d : Decl) × Any d) ((v : Var) × Any v)

  abbrev bare_cells : Celled → Layer
  bare_cells y = map-Expr _ _ _ _ _ _ _ _ _ _ (λ x. x.0) (λ x. x.0) (λ x. x.0) (λ x. x.0) (λ x. x.0) y

  cells_law : (y : Celled) → cells_layer (layer_in m (bare_cells y)) ≡ cells_layer (bare_cells y)
  cells_law (Expr-F.Num n at) = refl
  cells_law (Expr-F.Expr::Bool b at) = refl
  cells_law (Expr-F.Var v) = ap (λ (r : Ref). is_none r.cell) (ref_so m v.0)
  cells_law (Expr-F.Cell v i) = i.1
  cells_law (Expr-F.Load a) = a.1
  cells_law (Expr-F.Neg a at) = a.1
  cells_law (Expr-F.Not a at) = a.1
  cells_law (Expr-F.Cast z s a at) = a.1
  cells_law (Expr-F.Bin o a b at) = ap (λ p. p && has_no_cell (expr_in m b.0)) a.1 ∙ ap (λ p. has_no_cell a.0 && p) b.1

  cells_case : (y : Celled) → CellLaw (roll-Expr (bare_cells y))
  cells_case y = ap has_no_cell (in_is m (bare_cells y)) ∙ cells_is (layer_in m (bare_cells y)) ∙ cells_law y ∙ sym (cells_is (bare_cells y))

  access_cells_is : (x : Access-F Expr Ty Access Decl Var) → access_no_cell (roll-Access x) ≡ has_no_cell x.at
  access_cells_is x = para-roll-Access Bool (Unit {0}) Bool (Unit {0}) (Unit {0}) cells_step (λ t. tt) (λ a. a.at.1) (λ d. tt) (λ v. tt) x

  access_cells : (y : Access-F ((x : Expr) × CellLaw x) ((z : Ty) × Any z) ((a : Access) × AccessCells a) ((d : Decl) × Any d) ((v : Var) × Any v)) → AccessCells (roll-Access (map-Access _ _ _ _ _ _ _ _ _ _ (λ x. x.0) (λ x. x.0) (λ x. x.0) (λ x. x.0) (λ x. x.0) y))
  access_cells y =
      let x = map-Access _ _ _ _ _ Expr Ty Access Decl Var (λ x. x.0) (λ x. x.0) (λ x. x.0) (λ x. x.0) (λ x. x.0) y in
      ap access_no_cell (access_in_is m x) ∙ access_cells_is (access_layer_in m x) ∙ y.at.1 ∙ sym (access_cells_is x)

  pub copied_cells : (x : Expr) → CellLaw x
  copied_cells =
      ind-Expr CellLaw Any AccessCells Any Any
      (λ z y is. subst (λ k. CellLaw (roll-Expr k)) is (cells_case y))
      (λ z y is. tt)
      (λ z y is. subst (λ k. AccessCells (roll-Access k)) is (access_cells y))
      (λ z y is. tt)
      (λ z y is. tt)

-- ---- what has values

-- i: the inline variables of the body; names: those of the function without calls
module _ (names : InlineNames) (i : Inlines) (m : Names) (named : (n : List ℕ) → names (m n).0 (m n).1 ≡ i n) where
  pub var_named : (v : Var) → is_inline_var names (var_in m v) ≡ i (ref_of v).name
  var_named v = ap (λ (r : Ref). names r.name r.copy) (ref_so m v) ∙ named (ref_of v).name

  module _ (e k : KnownNumbers) (agree : (n : List ℕ) → k (m n).0 (m n).1 ≡ e n 0) where
    abbrev Own : Expr → Bool
    Own = has_values (in_source i) e

    abbrev ValuesLaw : Expr → Type 0
    ValuesLaw x = is_text x ≡ true → has_values names k (expr_in m x) ≡ Own x

    abbrev AccessLaw : Access → Type 0
    AccessLaw a = is_access_text a ≡ true → access_has_values names k (access_in m a) ≡ access_has_values (in_source i) e a

    abbrev Valued : Type 0
    Valued = Expr-F ((x : Expr) × ValuesLaw x) ((y : Ty) × Any y) ((a : Access) × AccessLaw a) ((d : Decl) × Any d) ((v : Var) × Any v)

    abbrev bare : Valued → Layer
    bare y = map-Expr _ _ _ _ _ _ _ _ _ _ (λ x. x.0) (λ x. x.0) (λ x. x.0) (λ x. x.0) (λ x. x.0) y

    parts_law : (y : Valued) → over_layer of_text any_array (bare y) ≡ true → parts_layer names k (layer_in m (bare y)) ≡ parts_layer (in_source i) e (bare y)
    parts_law (Expr-F.Num n at) t = refl
    parts_law (Expr-F.Expr::Bool b at) t = refl
    parts_law (Expr-F.Var v) t = ap not (var_named v.0)
    parts_law (Expr-F.Cell v x) t = ap (λ p. not p && has_values names k (expr_in m x.0)) (var_named v.0) ∙ ap (λ p. not (i (ref_of v.0).name) && p) (x.1 t)
    parts_law (Expr-F.Load a) t = a.1 t
    parts_law (Expr-F.Neg a at) t = a.1 t
    parts_law (Expr-F.Not a at) t = a.1 t
    parts_law (Expr-F.Cast z s a at) t = a.1 t
    parts_law (Expr-F.Bin o a b at) t =
        let q = and_parts (is_text a.0) _ t in ap (λ p. p && has_values names k (expr_in m b.0)) (a.1 q.0) ∙ ap (λ p. Own a.0 && p) (b.1 q.1)

    known_same : (x : Expr) → is_text x ≡ true → is_known names k (expr_in m x) ≡ is_known (in_source i) e x
    known_same x t =
        ap (λ p. p && is_some (inline_value k (expr_in m x))) (copied_cells m x)
        ∙ ap (λ p. has_no_cell x && is_some p) (copied_value m e k agree x t)

    values_case : (y : Valued) → ValuesLaw (roll-Expr (bare y))
    values_case y t =
        ap (has_values names k) (in_is m x) ∙ known_is names k (layer_in m x)
        ∙ ap (λ z. if is_inline z then is_known names k z else parts_layer names k (layer_in m x)) (sym (in_is m x))
        ∙ ap (λ b. if b then is_known names k (expr_in m (roll-Expr x)) else parts_layer names k (layer_in m x)) (copied_inline m (roll-Expr x))
        ∙ ap (λ b. if is_inline (roll-Expr x) then b else parts_layer names k (layer_in m x)) (known_same (roll-Expr x) t)
        ∙ ap (λ b. if is_inline (roll-Expr x) then is_known (in_source i) e (roll-Expr x) else b) (parts_law y (sym (over_is of_text any_array x) ∙ t))
        ∙ sym (known_is (in_source i) e x)
      where
        x : Layer
        x = bare y

    access_case : (y : Access-F ((x : Expr) × ValuesLaw x) ((z : Ty) × Any z) ((a : Access) × AccessLaw a) ((d : Decl) × Any d) ((v : Var) × Any v)) → AccessLaw (roll-Access (map-Access _ _ _ _ _ _ _ _ _ _ (λ x. x.0) (λ x. x.0) (λ x. x.0) (λ x. x.0) (λ x. x.0) y))
    access_case y t =
        let x = map-Access _ _ _ _ _ Expr Ty Access Decl Var (λ x. x.0) (λ x. x.0) (λ x. x.0) (λ x. x.0) (λ x. x.0) y in
        ap (access_has_values names k) (access_in_is m x) ∙ access_known_is names k (access_layer_in m x)
        ∙ y.at.1 (sym (access_over_is of_text any_array x) ∙ t) ∙ sym (access_known_is (in_source i) e x)

    pub values_copied : (x : Expr) → ValuesLaw x
    values_copied =
        ind-Expr ValuesLaw Any AccessLaw Any Any
        (λ z y is. subst (λ k. ValuesLaw (roll-Expr k)) is (values_case y))
        (λ z y is. tt)
        (λ z y is. subst (λ k. AccessLaw (roll-Access k)) is (access_case y))
        (λ z y is. tt)
        (λ z y is. tt)

    access_copied : (a : Access) → AccessLaw a
    access_copied =
        ind-Access ValuesLaw Any AccessLaw Any Any
        (λ z y is. subst (λ k. ValuesLaw (roll-Expr k)) is (values_case y))
        (λ z y is. tt)
        (λ z y is. subst (λ k. AccessLaw (roll-Access k)) is (access_case y))
        (λ z y is. tt)
        (λ z y is. tt)

    pub value_copied : (x : Expr) (c : Constant) → is_text x ≡ true → HasValue e x c → HasValue k (expr_in m x) c
    value_copied x c t h = (copied_cells m x ∙ h.0, copied_value m e k agree x t ∙ h.1)

    -- ---- statements

    pub left_copied : (d : Lval) → IsNamedLeft i d → left_has_values names k (lval_in m d) ≡ left_has_values (in_source i) e d
    left_copied (lval.Skip at) h = refl
    left_copied (lval.Var v) h =
        ap (λ p. not p && not (is_inline (expr.Var (var_in m v)))) (var_named v)
        ∙ ap (λ x. not (i (ref_of v).name) && not (is_inline x)) (sym (in_var m v))
        ∙ ap (λ p. not (i (ref_of v).name) && not p) (copied_inline m (expr.Var v))
    left_copied (lval.Cell v x) h = ap (λ p. not p && has_values names k (expr_in m x)) (var_named v) ∙ ap (λ p. not (i (ref_of v).name) && p) (values_copied x h)
    left_copied (lval.Store a) h = access_copied a h

    lefts_copied : (ds : List Lval) → AreNamedLefts i ds → list_all (left_has_values names k) (map (lval_in m) ds) ≡ list_all (left_has_values (in_source i) e) ds
    lefts_copied [] h = refl
    lefts_copied (d ∷ ds) h =
        ap (λ p. p && list_all (left_has_values names k) (map (lval_in m) ds)) (left_copied d h.0)
        ∙ ap (λ p. left_has_values (in_source i) e d && p) (lefts_copied ds h.1)

    args_copied : (xs : List Expr) → AreTexts xs → list_all (has_values names k) (map (expr_in m) xs) ≡ list_all Own xs
    args_copied [] h = refl
    args_copied (x ∷ xs) h = ap (λ p. p && list_all (has_values names k) (map (expr_in m) xs)) (values_copied x h.0) ∙ ap (λ p. Own x && p) (args_copied xs h.1)

    if_copied : (c : Option Expr) → IsTextIf c → if_has_values names k (option_map (expr_in m) c) ≡ if_has_values (in_source i) e c
    if_copied None h = refl
    if_copied (Some x) h = values_copied x h

    pub operation_copied : (o : Operation) → IsNamedOp i o → operation_has_values names k (op_in m o) ≡ operation_has_values (in_source i) e o
    operation_copied (assign to o x c at) h =
        let l = lefts_copied to h.0 in let v = values_copied x h.1 in let q = if_copied c h.2 in let s = whole_split m to o x in rw (l, v, q, s)
    operation_copied (instruction to n args at) h = let l = lefts_copied to h.0 in let v = args_copied args h.1 in rw (l, v)
    operation_copied (unset vs) h = absurd h
    operation_copied (meaningless at) h = absurd h
