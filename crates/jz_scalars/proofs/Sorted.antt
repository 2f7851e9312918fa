-- Where variables hold what they are declared to hold, the numbers that are left are the same by the declarations as by the kinds.
use Rattle.std.proofs.Common.{◌≡◌, Bool, true, false, List, [], ◌∷◌, ◌++◌, Option, Some, None, refl, ap, sym, ◌∙◌, subst, arith}
use Rattle.std.specs.Prelude.{if◌then◌else◌, All}
use Rattle.std.proofs.lemmas.Bool.{and_parts}
use Rattle.std.proofs.lemmas.List.Elements.{All-head, All-tail}
use Rattle.jz_tree.specs.declared.expr.BinOp.{BinOp}
use Rattle.jz_tree.specs.declared.expr.Expr.{Expr}
use Rattle.jz_tree.specs.declared.expr.Ty.{Ty}
use Rattle.jz_tree.specs.declared.expr.Access.{Access}
use Rattle.jz_tree.specs.declared.expr.Decl.{Decl}
use Rattle.jz_tree.specs.declared.expr.Var.{Var}
use Rattle.jz_tree.specs.declared.expr.Expr.TheOpen.{Expr-F, Access-F}
use Rattle.jz_tree.specs.declared.expr.Expr.TheViews.{roll-Expr, roll-Access}
use Rattle.jz_tree.specs.declared.expr.Expr.TheFolds.{ind-Expr, map-Expr, map-Access}
use Rattle.jz_tree.specs.declared.intrinsic.Instance.{Instance}
use Rattle.jz_tree.specs.declared.stmt.Lval.{Lval}
use Rattle.jz_tree.specs.Span.{Span}
use Rattle.jz_meaning.specs.Assignments.{as_expr, last_left, whole_of}
use Rattle.jz_meaning.specs.Shapes.{Sort, words, flags, integers, Shape, own_count}
use Rattle.jz_meaning.specs.Values.{ref_of}
use Rattle.jz_arrays.specs.Kinds.{Kinds, sort_of_kind, sorts_of}
use Rattle.jz_inline.specs.Scopes.{Scope, IsScope, is_over, is_access_over}
use Rattle.jz_inline.proofs.Reading.{over_layer, over_is, access_over_is}
use Rattle.jz_inline.proofs.Widths.{declared_is, same_width}
use Rattle.jz_unroll.proofs.Layers.{Layer}
use Rattle.jz_arrays.specs.Cells.{sort_in, size_at, cell_in, is_scalar, all_kept, mask_of, access_mask, left_mask, lefts_mask, mask_if, old_mask, condition_mask, args_mask, own_mask, instruction_mask, assign_mask}
use Rattle.jz_arrays.proofs.Reading.{mask_layer, mask_is, access_mask_is, shape_is}
use Rattle.jz_scalars.specs.Scalars.{declared_sort}
use Rattle.jz_scalars.specs.Ready.{same_sort, is_sorted, AreSorted, AreLeftSorted}
use Rattle.jz_scalars.proofs.MaskLemmas.{left_read}

one_sort : (a b : Sort) → same_sort a b ≡ true → a ≡ b
one_sort words words e = refl
one_sort flags flags e = refl
one_sort integers integers e = refl
one_sort words flags e = absurd cc
one_sort words integers e = absurd cc
one_sort flags words e = absurd cc
one_sort flags integers e = absurd cc
one_sort integers words e = absurd cc
one_sort integers flags e = absurd cc

module _ (kinds : Kinds) where
  abbrev S : Expr → Sort
  S = sort_in (sorts_of kinds)

  abbrev over : Expr → Bool
  over = is_over (is_sorted kinds) (is_sorted kinds)

  -- a function that has these variables, and sets none
  abbrev X : Scope
  X = record { sorts = sorts_of kinds; has_scalar = is_sorted kinds; has_array = is_sorted kinds; sets_scalar = λ r. false; sets_array = λ r. false }

  scope : IsScope X
  scope = record {
    scalars = λ r e. absurd (never e);
    arrays = λ r e. absurd (never e);
    sorted = λ r e. one_sort (sorts_of kinds r.name r.copy) (sort_of_kind r.kind) e;
    worded = λ r e. one_sort (sorts_of kinds r.name r.copy) (sort_of_kind r.kind) e;
  }
    where
      never : false ≡ true → ⊥
      never e = absurd cc

  -- an operation shows as many numbers of its own
  own_same : (op : BinOp) (a b : Expr) (at : Span) → over (roll-Expr (Expr-F.Bin op a b at)) ≡ true → over a ≡ true → over b ≡ true → own_count op (declared_sort a) (declared_sort b) ≡ own_count op (S a) (S b)
  own_same op a b at all oa ob =
      let whole = same_width X scope (roll-Expr (Expr-F.Bin op a b at)) all in
      let first = same_width X scope a oa in
      let second = same_width X scope b ob in
      let declared = ap (λ (s : Shape). s.count) (declared_is (Expr-F.Bin op a b at)) in
      let shaped = ap (λ (s : Shape). s.count) (shape_is (sorts_of kinds) (Expr-F.Bin op a b at)) in
      omega (arith, whole, first, second, declared, shaped)

  abbrev ExprLaw : Expr → Type 0
  ExprLaw e = over e ≡ true → mask_of declared_sort e ≡ mask_of S e

  abbrev AccessLaw : Access → Type 0
  AccessLaw a = is_access_over (is_sorted kinds) (is_sorted kinds) a ≡ true → access_mask declared_sort a ≡ access_mask S a

  abbrev Any : {A : Type 0} → A → Type 0
  Any y = Unit {0}

  abbrev Known : Type 0
  Known = Expr-F ((e : Expr) × ExprLaw e) ((t : Ty) × Any t) ((a : Access) × AccessLaw a) ((d : Decl) × Any d) ((v : Var) × Any v)

  abbrev bare : Known → Layer
  bare y = map-Expr _ _ _ _ _ _ _ _ _ _ (λ e. e.0) (λ e. e.0) (λ e. e.0) (λ e. e.0) (λ e. e.0) y

  layer_law : (y : Known) → over_layer (is_sorted kinds) (is_sorted kinds) (bare y) ≡ true → mask_layer declared_sort (bare y) ≡ mask_layer S (bare y)
  layer_law (Expr-F.Num i at) known = refl
  layer_law (Expr-F.Expr::Bool c at) known = refl
  layer_law (Expr-F.Var v) known = refl
  layer_law (Expr-F.Cell v e) known =
      ap (λ m. if is_scalar (size_at v.0) (cell_in v.0 e.0) then false ∷ [] else m ++ true ∷ []) (e.1 (and_parts (is_sorted kinds (ref_of v.0)) _ known).1)
  layer_law (Expr-F.Load a) known = ap (λ m. m ++ true ∷ []) (a.1 known)
  layer_law (Expr-F.Neg e at) known = e.1 known
  layer_law (Expr-F.Not e at) known = e.1 known
  layer_law (Expr-F.Cast z sign e at) known = e.1 known
  layer_law (Expr-F.Bin op a b at) known =
      let both = and_parts (over a.0) _ known in
      ap (λ m. m ++ (mask_of declared_sort b.0 ++ all_kept (own_count op (declared_sort a.0) (declared_sort b.0)))) (a.1 both.0)
      ∙ ap (λ m. mask_of S a.0 ++ (m ++ all_kept (own_count op (declared_sort a.0) (declared_sort b.0)))) (b.1 both.1)
      ∙ ap (λ n. mask_of S a.0 ++ (mask_of S b.0 ++ all_kept n)) (own_same op a.0 b.0 at (over_is (is_sorted kinds) (is_sorted kinds) (Expr-F.Bin op a.0 b.0 at) ∙ known) both.0 both.1)

  expr_case : (y : Known) → ExprLaw (roll-Expr (bare y))
  expr_case y known = mask_is declared_sort (bare y) ∙ layer_law y (sym (over_is (is_sorted kinds) (is_sorted kinds) (bare y)) ∙ known) ∙ sym (mask_is S (bare y))

  access_case : (y : Access-F ((e : Expr) × ExprLaw e) ((t : Ty) × Any t) ((a : Access) × AccessLaw a) ((d : Decl) × Any d) ((v : Var) × Any v)) → AccessLaw (roll-Access (map-Access _ _ _ _ _ _ _ _ _ _ (λ e. e.0) (λ e. e.0) (λ e. e.0) (λ e. e.0) (λ e. e.0) y))
  access_case y known =
      let z = map-Access _ _ _ _ _ Expr Ty Access Decl Var (λ e. e.0) (λ e. e.0) (λ e. e.0) (λ e. e.0) (λ e. e.0) y in
      access_mask_is declared_sort z ∙ y.at.1 (sym (access_over_is (is_sorted kinds) (is_sorted kinds) z) ∙ known) ∙ sym (access_mask_is S z)

  same_mask : (e : Expr) → ExprLaw e
  same_mask =
      ind-Expr ExprLaw Any AccessLaw Any Any
      (λ z y is. subst (λ k. ExprLaw (roll-Expr k)) is (expr_case y))
      (λ z y is. tt)
      (λ z y is. subst (λ k. AccessLaw (roll-Access k)) is (access_case y))
      (λ z y is. tt)
      (λ z y is. tt)

  -- ---- statements

  pub same_if : (e : Option Expr) → AreSorted kinds e → mask_if declared_sort e ≡ mask_if S e
  same_if None h = refl
  same_if (Some e) h = same_mask e h

  same_left : (d : Lval) → AreSorted kinds (as_expr d) → left_mask declared_sort d ≡ left_mask S d
  same_left d h = left_read declared_sort d ∙ same_if (as_expr d) h ∙ sym (left_read S d)

  same_lefts : (ds : List Lval) → AreLeftSorted kinds ds → lefts_mask declared_sort ds ≡ lefts_mask S ds
  same_lefts [] h = refl
  same_lefts (d ∷ ds) h =
      ap (λ m. m ++ lefts_mask declared_sort ds) (same_left d (All-head (λ f. AreSorted kinds (as_expr f)) d ds h))
      ∙ ap (λ m. left_mask S d ++ m) (same_lefts ds (All-tail (λ f. AreSorted kinds (as_expr f)) d ds h))

  same_old : (ds : List Lval) → AreLeftSorted kinds ds → old_mask declared_sort ds ≡ old_mask S ds
  same_old [] h = refl
  same_old (d ∷ []) h = same_if (as_expr d) (All-head (λ f. AreSorted kinds (as_expr f)) d [] h)
  same_old (d ∷ f ∷ ds) h = refl

  same_condition : (to : List Lval) (c : Option Expr) → AreLeftSorted kinds to → AreSorted kinds c → condition_mask declared_sort to c ≡ condition_mask S to c
  same_condition to None h k = refl
  same_condition to (Some c) h k = ap (λ m. m ++ old_mask declared_sort to) (same_mask c k) ∙ ap (λ m. mask_of S c ++ m) (same_old to h)

  same_args : (es : List Expr) → All (λ e. AreSorted kinds (Some e)) es → args_mask declared_sort es ≡ args_mask S es
  same_args [] h = refl
  same_args (e ∷ es) h =
      ap (λ m. m ++ args_mask declared_sort es) (same_mask e (All-head (λ f. AreSorted kinds (Some f)) e es h))
      ∙ ap (λ m. mask_of S e ++ m) (same_args es (All-tail (λ f. AreSorted kinds (Some f)) e es h))

  same_own : (i : Option Instance) → own_mask declared_sort i ≡ own_mask S i
  same_own None = refl
  same_own (Some i) = refl

  pub same_instruction : (i : Option Instance) (to : List Lval) (args : List Expr) → AreLeftSorted kinds to → All (λ e. AreSorted kinds (Some e)) args → instruction_mask declared_sort i to args ≡ instruction_mask S i to args
  same_instruction i to args h k =
      ap (λ m. (m ++ own_mask declared_sort i) ++ lefts_mask declared_sort to) (same_args args k)
      ∙ ap (λ m. (args_mask S args ++ m) ++ lefts_mask declared_sort to) (same_own i)
      ∙ ap (λ m. (args_mask S args ++ own_mask S i) ++ m) (same_lefts to h)

  pub same_assign : (to : List Lval) (o : Option BinOp) (e : Expr) (c : Option Expr) → AreLeftSorted kinds to → AreSorted kinds (whole_of (last_left to) o e) → AreSorted kinds c → assign_mask declared_sort to o e c ≡ assign_mask S to o e c
  same_assign to o e c h w k =
      ap (λ m. m ++ (condition_mask declared_sort to c ++ lefts_mask declared_sort to)) (same_if (whole_of (last_left to) o e) w)
      ∙ ap (λ m. mask_if S (whole_of (last_left to) o e) ++ (m ++ lefts_mask declared_sort to)) (same_condition to c h k)
      ∙ ap (λ m. mask_if S (whole_of (last_left to) o e) ++ (condition_mask S to c ++ m)) (same_lefts to h)
