-- Words in place of cells of register arrays, form by form.
use Rattle.std.proofs.Common.{◌≡◌, ℕ, true, false, Option, Some, None, refl, sym, ap, ◌∙◌, subst, pos, if◌then◌else◌}
use Rattle.std.specs.Prelude.{option_map}
use Rattle.jz_words.specs.declared.size.Size.{Size}
use Rattle.jz_tree.specs.Span.{Span}
use Rattle.jz_tree.specs.declared.expr.Access.{Access}
use Rattle.jz_tree.specs.declared.expr.Decl.{Decl}
use Rattle.jz_tree.specs.declared.expr.Storage.TheVariants as storage
use Rattle.jz_tree.specs.declared.expr.Ty.{Ty}
use Rattle.jz_tree.specs.declared.expr.Expr.{Expr}
use Rattle.jz_tree.specs.declared.expr.Expr.TheVariants as expr
use Rattle.jz_tree.specs.declared.expr.Expr.TheOpen.{Expr-F, Access-F}
use Rattle.jz_tree.specs.declared.expr.Expr.TheViews.{out-Var, out-Ty, out-Access, roll-Access, roll-out-Access, out-roll-Access}
use Rattle.jz_tree.specs.declared.expr.Var.{Var}
use Rattle.jz_type_names.specs.declared.kinds.Kind.TheVariants as scope
use Rattle.jz_type_names.specs.declared.kinds.Declared.{Declared}
use Rattle.jz_type_names.specs.Kinds.{is_inline, declared_of}
use Rattle.jz_type_names.specs.Parts.{span_of}
use Rattle.jz_integers.specs.Integers.{KnownNumbers}
use Rattle.jz_meaning.specs.Values.{ref_of}
use Rattle.jz_unroll.specs.Values.{with_values, access_with_values}
use Rattle.jz_arrays.specs.Cells.{is_register, cells_of_ty, cells_of_decl, size_at, constant_layer, is_below, number_below, cell_in, scalar, cell_or, with_scalars, access_with_scalars, left_or}
use Rattle.jz_arrays.proofs.Reading.{in_is, access_in_is}
use Rattle.jz_one_row.proofs.Outs.{out_num}
use Rattle.jz_limits.proofs.Layers.{inline_var}
use Rattle.jz_homes.specs.Homes.{Homes}
use Rattle.jz_total_rows.specs.Expanded as expanded
use Rattle.jz_total_rows.specs.Expanded.{HasHome, IsExpanded, IsExpandedLeft}
use Rattle.jz_total_rows.proofs.Forms.{home_not_inline, minus_inline, denial_inline, cast_inline, two_inline, cell_inline, load_inline}
use Rattle.jz_expanded.specs.Valued.{IsStackArray, to_nothing, to_variable, to_cell, to_scalar, to_memory}
use Rattle.jz_expanded.specs.Laws.{ExpressionsAreExpanded, LeftsAreExpanded}
use Rattle.jz_expanded.proofs.Values as values
use Rattle.jz_expanded.proofs.Values.{IsScalable, s_number, s_truth, s_variable, s_cell, s_scalar, s_load, s_minus, s_denial, s_cast, s_two, and_same, scalable, index_is}

-- ---- what an access reads
at_layer : (x : Access-F Expr Ty Access Decl Var) → (out-Access (access_with_scalars (roll-Access x))).at ≡ with_scalars x.at
at_layer x =
    ap (λ m. (out-Access m).at) (access_in_is x)
    ∙ ap (λ (y : Access-F Expr Ty Access Decl Var). y.at) (out-roll-Access (record { size = x.size; at = with_scalars x.at; unaligned = x.unaligned; span = x.span }))

access_at : (a : Access) → (out-Access (access_with_scalars a)).at ≡ with_scalars (out-Access a).at
access_at a = ap (λ m. (out-Access (access_with_scalars m)).at) (sym (roll-out-Access a)) ∙ at_layer (out-Access a)

-- ---- cells
-- an array of the stack keeps its cells
same_item : {A : Type 0} (x y : A) → Some x ≡ Some y → x ≡ y
same_item x y e = cc

stack_decl : (d : Option Decl) (z : Size) → option_map declared_of d ≡ Some (record { storage = storage.Stack; kind = scope.Array z }) → cells_of_decl d ≡ None
stack_decl None z e = refl
stack_decl (Some d) z e =
    ap (λ (k : Declared). if is_register k.storage then cells_of_ty (out-Ty d.ty) else None) (same_item (declared_of d) (record { storage = storage.Stack; kind = scope.Array z }) e)

stack_size : (home : Homes) (v : Var) → IsStackArray home v → size_at v ≡ None
stack_size home v a = stack_decl (out-Var v).decl a.size a.declared

number_of : (v : Var) (n : ℕ) (at : Span) → is_below (ref_of v).kind n ≡ true → cell_in v (expr.Num (pos n) at) ≡ Some n
number_of v n at h =
    ap (λ l. number_below (ref_of v).kind (constant_layer l)) (out_num (pos n) at) ∙ ap (λ b. if b then Some n else None) h

-- ---- forms
scalars_cell : (v : Var) (i : Expr) → with_scalars (expr.Cell v i) ≡ cell_or v (with_scalars i) (size_at v) (cell_in v i)
scalars_cell v i = ap with_scalars (sym (expr.rolls-Cell v i)) ∙ in_is (Expr-F.Cell v i)

module _ (home : Homes) where
  record Left (e : Expr) : Type 0 where
    pub is : IsExpanded home (with_scalars e)
    pub same : is_inline (with_scalars e) ≡ is_inline e

  left_as : (e w : Expr) → with_scalars e ≡ w → IsExpanded home w → is_inline w ≡ is_inline e → Left e
  left_as e w p x q = record { is = subst (IsExpanded home) (sym p) x; same = ap is_inline p ∙ q }

  not_inline : (v : Var) → HasHome home v → is_inline (expr.Var v) ≡ false
  not_inline v h = inline_var v ∙ home_not_inline home v h

  left_of : (e : Expr) → IsScalable home e → Left e
  left_of e (s_number i at) = left_as (expr.Num i at) (expr.Num i at) (ap with_scalars (sym (expr.rolls-Num i at)) ∙ in_is (Expr-F.Num i at) ∙ expr.rolls-Num i at) (expanded.a_number i at) refl
  left_of e (s_truth b at) = left_as (expr.Bool b at) (expr.Bool b at) (ap with_scalars (sym (expr.rolls-Bool b at)) ∙ in_is (Expr-F.Expr::Bool b at) ∙ expr.rolls-Bool b at) (expanded.a_truth b at) refl
  left_of e (s_variable v h) = left_as (expr.Var v) (expr.Var v) (ap with_scalars (sym (expr.rolls-Var v)) ∙ in_is (Expr-F.Var v) ∙ expr.rolls-Var v) (expanded.a_variable v h) refl
  left_of e (s_cell v i c x) =
      let y = left_of i x in
      left_as (expr.Cell v i) (expr.Cell v (with_scalars i)) (scalars_cell v i ∙ ap (λ z. cell_or v (with_scalars i) z (cell_in v i)) (stack_size home v c) ∙ expr.rolls-Cell v (with_scalars i))
      (expanded.a_cell v (with_scalars i) (expanded.an_array c.size c.count c.variable c.declared c.cells) y.is) (cell_inline v (with_scalars i) ∙ sym (cell_inline v i))
  left_of e (s_scalar v n at c) =
      let i = expr.Num (pos n) at in
      let w = scalar v c.size n in
      left_as (expr.Cell v i) (expr.Var w)
      (scalars_cell v i ∙ ap (λ z. cell_or v (with_scalars i) z (cell_in v i)) c.array ∙ ap (cell_or v (with_scalars i) (Some c.size)) (number_of v n at c.below) ∙ expr.rolls-Var w)
      (expanded.a_variable w c.word) (not_inline w c.word ∙ sym (cell_inline v i))
  left_of e (s_load a x) =
      let y = left_of (out-Access a).at x in
      left_as (expr.Load a) (expr.Load (access_with_scalars a)) (ap with_scalars (sym (expr.rolls-Load a)) ∙ in_is (Expr-F.Load a) ∙ expr.rolls-Load (access_with_scalars a))
      (expanded.a_load (access_with_scalars a) (subst (IsExpanded home) (sym (access_at a)) y.is)) (load_inline (access_with_scalars a) ∙ sym (load_inline a))
  left_of e (s_minus a at n x) =
      let y = left_of a x in
      left_as (expr.Neg a at) (expr.Neg (with_scalars a) at) (ap with_scalars (sym (expr.rolls-Neg a at)) ∙ in_is (Expr-F.Neg a at) ∙ expr.rolls-Neg (with_scalars a) at)
      (expanded.a_minus (with_scalars a) at (y.same ∙ n) y.is) (minus_inline (with_scalars a) at ∙ (y.same ∙ sym (minus_inline a at)))
  left_of e (s_denial a at n x) =
      let y = left_of a x in
      left_as (expr.Not a at) (expr.Not (with_scalars a) at) (ap with_scalars (sym (expr.rolls-Not a at)) ∙ in_is (Expr-F.Not a at) ∙ expr.rolls-Not (with_scalars a) at)
      (expanded.a_denial (with_scalars a) at (y.same ∙ n) y.is) (denial_inline (with_scalars a) at ∙ (y.same ∙ sym (denial_inline a at)))
  left_of e (s_cast z s a at x) =
      let y = left_of a x in
      left_as (expr.Cast z s a at) (expr.Cast z s (with_scalars a) at) (ap with_scalars (sym (expr.rolls-Cast z s a at)) ∙ in_is (Expr-F.Cast z s a at) ∙ expr.rolls-Cast z s (with_scalars a) at)
      (expanded.a_cast z s (with_scalars a) at y.is) (cast_inline z s (with_scalars a) at ∙ sym (cast_inline z s a at))
  left_of e (s_two o a b at n x y) =
      let u = left_of a x in
      let w = left_of b y in
      let m = and_same (is_inline a) (is_inline b) (is_inline (with_scalars a)) (is_inline (with_scalars b)) u.same w.same n in
      left_as (expr.Bin o a b at) (expr.Bin o (with_scalars a) (with_scalars b) at)
      (ap with_scalars (sym (expr.rolls-Bin o a b at)) ∙ in_is (Expr-F.Bin o a b at) ∙ expr.rolls-Bin o (with_scalars a) (with_scalars b) at)
      (expanded.of_two o (with_scalars a) (with_scalars b) at m u.is w.is) (two_inline o (with_scalars a) (with_scalars b) at ∙ (m ∙ sym (two_inline o a b at ∙ n)))

-- ---- both
pub expressions : ExpressionsAreExpanded
expressions home k e x = (left_of home (with_values k e) (scalable home k e x)).is

both_at : (k : KnownNumbers) (a : Access) → (out-Access (access_with_scalars (access_with_values k a))).at ≡ with_scalars (with_values k (out-Access a).at)
both_at k a = access_at (access_with_values k a) ∙ ap with_scalars (values.access_at k a)

pub lefts : LeftsAreExpanded
lefts home k d (to_nothing at) = expanded.to_nothing at
lefts home k d (to_variable v h) = expanded.to_variable v h
lefts home k d (to_cell v i c x) =
    let w = with_values k i in
    subst (IsExpandedLeft home) (sym (ap (λ z. left_or v w z (cell_in v w)) (stack_size home v c)))
    (expanded.to_cell v (with_scalars w) (expanded.an_array c.size c.count c.variable c.declared c.cells) (expressions home k i x))
lefts home k d (to_scalar v i n c h q) =
    let w = with_values k i in
    let e : cell_in v w ≡ Some n = ap (cell_in v) (index_is home k i n h q) ∙ number_of v n (span_of i) c.below in
    subst (IsExpandedLeft home) (sym (ap (λ z. left_or v w z (cell_in v w)) c.array ∙ ap (left_or v w (Some c.size)) e))
    (expanded.to_variable (scalar v c.size n) c.word)
lefts home k d (to_memory a x) = expanded.to_memory (access_with_scalars (access_with_values k a)) (subst (IsExpanded home) (sym (both_at k a)) (expressions home k (out-Access a).at x))
