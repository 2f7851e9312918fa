-- Assignments and tests that are covered have operations.
use Rattle.std.proofs.Common.{◌≡◌, ℕ, Bool, true, false, ◌&&◌, List, [], ◌∷◌, ◌++◌, Option, Some, None, refl, sym, ap, ◌∙◌, subst, inl, inr, if◌then◌else◌}
use Rattle.std.specs.Prelude.{◌⊎◌}
use Rattle.std.specs.Option.{option_or}
use Rattle.std.proofs.lemmas.Bool.{false≢true, true≢false, and_parts}
use Rattle.jz_words.specs.declared.size.Size.{Size}
use Rattle.jz_tree.specs.Span.{Span}
use Rattle.jz_tree.specs.Operators.{divides, is_shift}
use Rattle.jz_tree.specs.declared.expr.BinOp.{BinOp}
use Rattle.jz_tree.specs.declared.expr.Expr.{Expr}
use Rattle.jz_tree.specs.declared.expr.Expr.TheVariants as expr
use Rattle.jz_tree.specs.declared.expr.Expr.TheOpen.{Expr-F}
use Rattle.jz_tree.specs.declared.expr.Expr.TheViews.{out-Expr}
use Rattle.jz_tree.specs.declared.expr.Var.{Var}
use Rattle.jz_tree.specs.declared.stmt.Lval.{Lval}
use Rattle.jz_tree.specs.declared.stmt.Lval.TheVariants as lval
use Rattle.jz_type_names.specs.Kinds.{known_of, is_inline, is_register_word, is_register_array}
use Rattle.jz_integers.specs.Integers.{the_number}
use Rattle.jz_select.specs.declared.shape.Shape.TheVariants as shapes
use Rattle.jz_select.specs.Look.{look_of}
use Rattle.jz_select.specs.Places.{Layer}
use Rattle.jz_select.specs.declared.class.Class.{Class}
use Rattle.jz_select.specs.InnerLayers.{flags_layer}
use Rattle.jz_select.specs.Operands.{var_class, class_layer, class_of, dest_of}
use Rattle.jz_select.proofs.Conditions.{flags_out}
use Rattle.jz_one_row.proofs.Outs.{out_num, out_bool, out_bin, out_not}
use Rattle.jz_select.specs.Rows.{is_r, is_i, is_rm, is_wide, class_size, conditional_row}
use Rattle.jz_select.specs.Shapes.{whichever, has_flags, is_test, assign_of}
use Rattle.jz_judgement.specs.Places as place
use Rattle.jz_judgement.specs.HasType as judged
use Rattle.jz_judgement.specs.HasType.{value, left, result, HasType, Operates, Says}
use Rattle.jz_judgement.specs.Lefts as lefts
use Rattle.jz_judgement.specs.Lefts.{Takes, value_term, Values}
use Rattle.jz_run_laws.proofs.Sizes.{right_type}
use Rattle.jz_row_laws.proofs.Booleans.{or_left, or_parts}
use Rattle.jz_row_laws.proofs.Copied.{Matches, no_free}
use Rattle.jz_meaning.specs.declared.access.Kind.TheVariants as kind
use Rattle.jz_meaning.specs.Values.{key_of, ref_of, own_size}
use Rattle.jz_meaning.specs.Assignments.{left_size, left_sizes, as_expr, left_span, updated_layer, updated}
use Rattle.jz_meaning.specs.Statements.{assign}
use Rattle.jz_limits.specs.declared.limit.Limit.{Limit}
use Rattle.jz_limits.specs.declared.limit.Limit.TheVariants.{ImmRange}
use Rattle.jz_limits.specs.declared.operands.Role.{Role}
use Rattle.jz_limits.specs.declared.operands.Role.TheVariants as role
use Rattle.jz_limits.specs.Values.{no_numbers, is_int, only_int}
use Rattle.jz_limits.specs.Asked.{told, Parts, in_kinds, is_count, left_access, to_register, is_free, value_role, value_as, asked_as, asked_if, left_parts, value_parts, assigned_parts, asked, asked_condition, size_compared}
use Rattle.jz_limits.specs.InnerLooked as found
use Rattle.jz_limits.specs.InnerLooked.{Seen, count_field}
use Rattle.jz_limits.proofs.Layers.{inline_var, look_bool, count_is}
use Rattle.jz_operations.specs.declared.operation.Arg.{Arg}
use Rattle.jz_operations.specs.declared.operation.Arg.TheVariants as arg
use Rattle.jz_operations.specs.declared.operation.Action.TheVariants as action
use Rattle.jz_operations.specs.declared.operation.Condition.TheVariants as conditions
use Rattle.jz_operations.specs.Rows.{Frame}
use Rattle.jz_homes.specs.Homes.{Homes, IsHoming, in_register}
use Rattle.jz_homes.specs.Operands.{Leaks, IsArg, IsDest, to_word, to_scalar, to_cell, to_memory}
use Rattle.jz_row_operations.specs.Codes.{no_flag, lasting}
use Rattle.jz_row_operations.specs.Rows.{IsWide, NotImm}
use Rattle.jz_row_operations.specs.Lowering.{sets, sets_if, tests, tests_each, never_false}
use Rattle.jz_total_rows.specs.Expanded as expanded
use Rattle.jz_total_rows.specs.Expanded.{HasHome, a_word, a_flag, a_scalar, an_array, IsExpanded, a_number, a_truth, a_variable, a_cell, a_load, a_minus, a_denial, a_cast, of_two, IsExpandedLeft}
use Rattle.jz_total_rows.specs.Covered as covered
use Rattle.jz_total_rows.specs.Covered.{divides_layer, IsComparison, IsCovered}
use Rattle.jz_total_rows.specs.Laws.{IsReadyAssign, HasRowOperations, AssignmentsHaveOperations, TestsHaveOperations, LoopTestsHaveOperations}
use Rattle.jz_total_rows.proofs.Forms.{home_not_inline, minus_inline, denial_inline, cast_inline, two_inline, cell_inline, load_inline}
use Rattle.jz_total_rows.proofs.InlineValues.{IsNumber, IsTruth, condition_truth}
use Rattle.jz_total_rows.proofs.Summed.{seen}
use Rattle.jz_total_rows.proofs.Fits.{is_place, Fits, cmov_spelled}
use Rattle.jz_total_rows.proofs.Stands.{is_variable, stands_place, variable_of}
use Rattle.jz_total_rows.proofs.Meets.{A}
use Rattle.jz_total_rows.proofs.Bringing.{encode}
use Rattle.jz_total_rows.proofs.Operands.{of_size, operand_there, left_operand, LeftAs, left_there}
use Rattle.jz_total_rows.proofs.Counting.{says_own}
use Rattle.jz_total_rows.proofs.KeptLimits.{both_nothing}
use Rattle.jz_total_rows.proofs.Rows.{not_imm, place_not_imm, wide_of}
use Rattle.jz_total_rows.proofs.Assigned.{none_more, either, no_shift, at_size, IsKept}
use Rattle.jz_total_rows.proofs.RightSides.{IsWithin, value_row, update_row}
use Rattle.jz_total_rows.proofs.Comparing.{at_compared, compared_there}
use Rattle.jz_total_rows.proofs.Statements.{assign_matches, assigned_rm, OwnSize, of_left, of_right, TypedLeft, typed_left, left_first, right_first, read_size, behind_says, updated_size}

-- ---- inline right sides
pub inline_is : (home : Homes) (e : Expr) → IsExpanded home e → is_inline e ≡ true → IsNumber e ⊎ IsTruth e
inline_is home e (a_number i at) h = inl (i, at, refl)
inline_is home e (a_truth b at) h = inr (b, at, refl)
inline_is home e (a_variable v x) h = absurd (false≢true (sym (inline_var v ∙ home_not_inline home v x) ∙ h))
inline_is home e (a_cell v i x y) h = absurd (false≢true (sym (cell_inline v i) ∙ h))
inline_is home e (a_load a x) h = absurd (false≢true (sym (load_inline a) ∙ h))
inline_is home e (a_minus a at n x) h = absurd (false≢true (sym (minus_inline a at ∙ n) ∙ h))
inline_is home e (a_denial a at n x) h = absurd (false≢true (sym (denial_inline a at ∙ n) ∙ h))
inline_is home e (a_cast z s a at x) h = absurd (false≢true (sym (cast_inline z s a at) ∙ h))
inline_is home e (of_two o a b at n x y) h = absurd (false≢true (sym (two_inline o a b at ∙ n) ∙ h))

truth_kept : (z : Size) (e : Expr) → IsTruth e → IsKept z e
truth_kept z e t = ap (λ x. (seen (at_size z) x).operand) t.2 ∙ ap (λ (k : Seen). k.operand) (look_bool no_numbers (at_size z) t.0 t.1)

-- ---- a number may go to a register as it is
word_register : (home : Homes) (v : Var) → HasHome home v → is_register_word (known_of v) ≡ true → is_r (var_class (known_of v)) ≡ true
word_register home v (a_word z n d k h) e = ap (λ q. is_r (var_class q)) d
word_register home v (a_flag n d k h) e = absurd (false≢true (sym (ap is_register_word d) ∙ e))
word_register home v (a_scalar z w d k h) e = absurd (false≢true (sym (ap is_register_word d) ∙ e))
word_register home v (an_array z n w d c) e = absurd (false≢true (sym (ap is_register_word d) ∙ e))

no_register_array : (home : Homes) (v : Var) → HasHome home v → is_register_array (known_of v) ≡ true → ⊥
no_register_array home v (a_word z n d k h) e = false≢true (sym (ap is_register_array d) ∙ e)
no_register_array home v (a_flag n d k h) e = false≢true (sym (ap is_register_array d) ∙ e)
no_register_array home v (a_scalar z w d k h) e = false≢true (sym (ap is_register_array d) ∙ e)
no_register_array home v (an_array z n w d c) e = false≢true (sym (ap is_register_array d) ∙ e)

to_register_is : (home : Homes) (d : Lval) → IsExpandedLeft home d → to_register (Some d) ≡ true → is_r (dest_of d) ≡ true
to_register_is home d (expanded.to_nothing at) h = absurd (false≢true h)
to_register_is home d (expanded.to_variable v x) h = word_register home v x h
to_register_is home d (expanded.to_cell v i x y) h = absurd (no_register_array home v x h)
to_register_is home d (expanded.to_memory a x) h = absurd (false≢true h)

-- no left side is an inline integer
pub no_target : (home : Homes) (d : Lval) → IsExpandedLeft home d → only_int d ≡ None
no_target home d (expanded.to_nothing at) = refl
no_target home d (expanded.to_cell v i x y) = refl
no_target home d (expanded.to_memory a x) = refl
no_target home d (expanded.to_variable v x) = by_home x
  where
    if_int : (b : Bool) → b ≡ false → (if b then Some v else None) ≡ None
    if_int true e = absurd (true≢false e)
    if_int false e = refl

    by_home : HasHome home v → (if is_int (ref_of v).kind then Some v else None) ≡ None
    by_home (a_word z n d k h) = if_int (is_int (ref_of v).kind) (ap is_int k)
    by_home (a_flag n d k h) = if_int (is_int (ref_of v).kind) (ap is_int k)
    by_home (a_scalar z w d k h) = if_int (is_int (ref_of v).kind) (ap is_int k)
    by_home (an_array z n w d c) = if_int (is_int (ref_of v).kind) (ap is_int c.0)

-- ---- fields
pub fields_none : (p : Parts) → in_kinds p ≡ [] → p.fields ≡ []
fields_none p h = (both_nothing p.ranges p.fields (both_nothing p.widths (p.ranges ++ p.fields) h).1).1

pub first_none : (ls : List Limit) → ls ≡ [] → found.first ls ≡ None
first_none ls h = ap found.first h

left_none : (d : Option Expr) → (asked_if no_numbers role.Operand None d).fields ≡ [] → left_operand d ≡ None
left_none None h = refl
left_none (Some x) h = first_none ((told no_numbers x).operands None) h

-- the fields of the left side, of the value and of the condition
pub record FieldsKept (d : Lval) (o : Option BinOp) (e : Expr) (c : Option Expr) : Type 0 where
  pub left_side : left_operand (left_access d) ≡ None
  pub right : (value_parts no_numbers (Some d) (left_sizes (d ∷ [])) o e).fields ≡ []
  pub condition : (asked_if no_numbers role.Test None c).fields ≡ []

pub fields_kept : (home : Homes) (d : Lval) (o : Option BinOp) (e : Expr) (c : Option Expr) (at : Span) → IsExpandedLeft home d → asked no_numbers (assign (d ∷ []) o e c at) ≡ [] → FieldsKept d o e c
fields_kept home d o e c at x h =
    let p = subst (λ t. in_kinds (assigned_parts no_numbers t (d ∷ []) o e c) ≡ []) (no_target home d x) h in
    let f = fields_none (assigned_parts no_numbers None (d ∷ []) o e c) p in
    let a = both_nothing (left_parts no_numbers (d ∷ [])).fields ((value_parts no_numbers (Some d) (left_sizes (d ∷ [])) o e).fields ++ (asked_if no_numbers role.Test None c).fields) f in
    let b = both_nothing (value_parts no_numbers (Some d) (left_sizes (d ∷ [])) o e).fields (asked_if no_numbers role.Test None c).fields a.1 in
    record {
      left_side = left_none (left_access d) (both_nothing (asked_if no_numbers role.Operand None (left_access d)).fields [] a.0).0;
      right = b.0;
      condition = b.1;
    }

-- what is asked of a condition that is compared
pub fields_condition : (home : Homes) (c : Expr) → IsExpanded home c → has_flags c ≡ true → (asked_as no_numbers role.Test None c).fields ≡ [] → (seen (at_compared c) c).operand ≡ None
fields_condition home c x h fields = first_none _ (by_inline (is_inline c) refl)
  where
    by_inline : (b : Bool) → is_inline c ≡ b → (told no_numbers c).operands (size_compared c) ≡ []
    by_inline false i = sym (ap (λ b. if b then [] else (told no_numbers c).operands (size_compared c)) i) ∙ fields
    by_inline true i = absurd (no_value (inline_is home c x i))
      where
        no_value : IsNumber c ⊎ IsTruth c → ⊥
        no_value (inl n) = false≢true (sym (ap has_flags n.2 ∙ (flags_out (expr.Num n.0 n.1) ∙ ap flags_layer (out_num n.0 n.1))) ∙ h)
        no_value (inr n) = false≢true (sym (ap has_flags n.2 ∙ (flags_out (expr.Bool n.0 n.1) ∙ ap flags_layer (out_bool n.0 n.1))) ∙ h)

-- ---- `d = e`
pub free_or : (b : Bool) (z : Option Size) (r : Role) (e : Expr) → (value_as no_numbers b r z e).fields ≡ [] → b ≡ false → (asked_as no_numbers r z e).fields ≡ []
free_or true z r e h n = absurd (true≢false n)
free_or false z r e h n = h

pub record IsRegister (home : Homes) (d : Lval) (z : Size) (b : Arg) : Type 0 where
  pub var : Var
  pub number : ℕ
  pub arg_is : b ≡ arg.Var number
  pub left_is : d ≡ lval.Var var
  pub kind_is : (ref_of var).kind ≡ kind.Word z
  pub there : home (key_of (ref_of var)) ≡ Some (in_register number z)

-- `r = o if c`
pub record IsChosen (home : Homes) (d : Lval) (e : Expr) : Type 0 where
  pub size : Size
  pub wide : IsWide size
  pub arg' : Arg
  pub leaks : Leaks
  pub is : IsArg home size e arg' leaks
  pub in_place : is_place arg' ≡ true
  pub no_number : NotImm arg'
  pub fits : Fits size arg'
  pub dest : Arg
  pub register : IsRegister home d size dest

pub register_of : (home : Homes) (z : Size) (d : Lval) (b : Arg) (r : Leaks) → IsDest home z d b r → is_variable b ≡ true → IsRegister home d z b
register_of home z d b r (to_word v n k h) e = record { var = v; number = n; arg_is = refl; left_is = refl; kind_is = k; there = h }
register_of home z d b r (to_scalar v w k h) e = absurd (false≢true e)
register_of home z d b r (to_cell v i n w t c j cells s k) e = absurd (false≢true e)
register_of home z d b r (to_memory a t m k s j) e = absurd (false≢true e)

module _ (frame : Frame) (home : Homes) (homing : IsHoming frame home) (d : Lval) (x : IsExpandedLeft home d) where
  pub within_value : (e : Expr) (z : Size) → IsExpanded home e → (D : LeftAs home z d) (rd : is_rm (dest_of d) ≡ true) (fd : Fits z D.arg') → option_or (left_sizes (d ∷ [])) (own_size e) ≡ Some z
      → (value_parts no_numbers (Some d) (left_sizes (d ∷ [])) None e).fields ≡ [] → IsWithin frame home homing z d D rd fd e
  within_value e z y D rd fd s h = by_free (is_free (to_register (Some d)) None e) refl
    where
      by_inline : is_r (dest_of d) ≡ true → IsNumber e ⊎ IsTruth e → IsWithin frame home homing z d D rd fd e
      by_inline r (inl n) = inl (r, n)
      by_inline r (inr t) = inr (truth_kept z e t)

      by_free : (b : Bool) → is_free (to_register (Some d)) None e ≡ b → IsWithin frame home homing z d D rd fd e
      by_free true k = let p = and_parts (to_register (Some d)) (is_inline e) k in by_inline (to_register_is home d x p.0) (inline_is home e y p.1)
      by_free false k =
          inr
          (subst (λ w. (seen (record { place = None; size = w }) e).operand ≡ None) s
          (first_none _ (free_or (is_free (to_register (Some d)) None e) (option_or (left_sizes (d ∷ [])) (own_size e)) role.Operand e h k)))

  pub value_there : (e : Expr) (at : Span) (t : TypedLeft d (value e)) → IsExpanded home e → is_rm (dest_of d) ≡ true → divides_layer (out-Expr e) ≡ false → FieldsKept d None e None → Matches (assign_of (whichever A) None d None e)
      → HasRowOperations home (assign (d ∷ []) None e None at)
  value_there e at t y r q f h =
      let z = t.size in
      let D = left_there home z d x t.holds r in
      let fd = D.fits f.left_side in
      let s = size_by D t.own in
      let R = value_row frame home homing z d D r fd e y t.typed (within_value e z y D r fd s.0 f.right) s.1 q h in
      (lasting at no_flag R.acts, R.items, sets refl s.0 R.row R.encoded)
    where
      size_by : (D : LeftAs home t.size d) → OwnSize d (value e) t.size → (option_or (left_sizes (d ∷ [])) (own_size e) ≡ Some t.size) × ((left_size d ≡ Some t.size) ⊎ Says (value e) t.size)
      size_by D (of_left w) = (left_first (left_size d) t.size (own_size e) (D.wanted w), inl (D.wanted w))
      size_by D (of_right n s) = (right_first (left_size d) t.size (own_size e) n (says_own home e (place.word t.size) t.size y t.typed s), inr s)

  -- ---- `d op= e`
  pub operates_left : (o : BinOp) (e : Expr) (p : place.Place) → HasType (result o d e) p → Operates o (left d) (value e) p
  operates_left o e p (judged.updated k) = k

  pub counted_kept : (z : Size) (o : BinOp) (e : Expr) → (asked_as no_numbers (value_role (Some o)) (Some z) e).fields ≡ []
      → (if is_shift o then count_field (Some z) (seen (at_size z) e) else (seen (at_size z) e).operand) ≡ None
  counted_kept z o e h = by_shift (is_shift o) refl
    where
      by_shift : (b : Bool) → is_shift o ≡ b → (if b then count_field (Some z) (seen (at_size z) e) else (seen (at_size z) e).operand) ≡ None
      by_shift true k =
          sym (count_is no_numbers (is_inline e) (is_count (Some z) (the_number (seen (at_size z) e).value)) (ImmRange (seen (at_size z) e).span) ((told no_numbers e).operands (Some z)))
          ∙ first_none _ (sym (ap (λ b. (asked_as no_numbers (if b then role.Count else role.Operand) (Some z) e).fields) k) ∙ h)
      by_shift false k = first_none _ (sym (ap (λ b. (asked_as no_numbers (if b then role.Count else role.Operand) (Some z) e).fields) k) ∙ h)

  pub left_expr : is_rm (dest_of d) ≡ true → (r : Expr) × (as_expr d ≡ Some r)
  left_expr h = by_left d x h
    where
      by_left : (d : Lval) → IsExpandedLeft home d → is_rm (dest_of d) ≡ true → (r : Expr) × (as_expr d ≡ Some r)
      by_left d (expanded.to_nothing at) h = absurd (false≢true h)
      by_left d (expanded.to_variable v y) h = (expr.Var v, refl)
      by_left d (expanded.to_cell v i y w) h = (expr.Cell v i, refl)
      by_left d (expanded.to_memory a y) h = (expr.Load a, refl)

  pub update_there : (o : BinOp) (e : Expr) (at : Span) (t : TypedLeft d (result o d e)) → IsExpanded home e → is_rm (dest_of d) ≡ true → divides o ≡ false → FieldsKept d (Some o) e None → Matches (assign_of (whichever A) None d (Some o) e)
      → HasRowOperations home (assign (d ∷ []) (Some o) e None at)
  update_there o e at t y r q f h =
      let z = t.size in
      let D = left_there home z d x t.holds r in
      let fd = D.fits f.left_side in
      let g = left_expr r in
      let k = operates_left o e (place.word z) t.typed in
      let s = size_by D k t.own in
      let l = counted_kept z o e (subst (λ w. (asked_as no_numbers (value_role (Some o)) w e).fields ≡ []) s.0 f.right) in
      let R = update_row frame home homing z d D r fd o e g.0 g.1 y k l s.1 q h in
      (lasting at no_flag R.acts, R.items, sets (ap (λ w. updated w o e (left_span d)) g.1) (whole_size g.0 g.1 D k t.own) R.row R.encoded)
    where
      typed_right : Operates o (left d) (value e) (place.word t.size) → (p : place.Place) × HasType (value e) p
      typed_right k = right_type o (left d) (value e) (place.word t.size) k

      size_by : (D : LeftAs home t.size d) → Operates o (left d) (value e) (place.word t.size) → OwnSize d (result o d e) t.size → (option_or (left_sizes (d ∷ [])) (own_size e) ≡ Some t.size) × (is_shift o ≡ true → left_size d ≡ Some t.size)
      size_by D k (of_left w) = (left_first (left_size d) t.size (own_size e) (D.wanted w), λ i. D.wanted w)
      size_by D k (of_right n s) =
          let b = behind_says home d o e t.size x n s in
          let u = typed_right k in
          (right_first (left_size d) t.size (own_size e) n (says_own home e u.0 t.size y u.1 b.says), λ i. absurd (true≢false (sym i ∙ no_shift o b.arith)))

      whole_size : (r : Expr) → as_expr d ≡ Some r → (D : LeftAs home t.size d) → Operates o (left d) (value e) (place.word t.size) → OwnSize d (result o d e) t.size
          → option_or (left_sizes (d ∷ [])) (own_size (updated_layer o r e (left_span d) (out-Expr e))) ≡ Some t.size
      whole_size r g D k (of_left w) = left_first (left_size d) t.size _ (D.wanted w)
      whole_size r g D k (of_right n s) =
          let b = behind_says home d o e t.size x n s in
          let u = typed_right k in
          right_first (left_size d) t.size _ n
          (updated_size o r e (left_span d) t.size b.arith (read_size d r g ∙ n) (says_own home e u.0 t.size y u.1 b.says) (out-Expr e) refl)

  -- ---- `r = o if c`
  pub chosen_only : (c : Bool) (e : Expr) → Matches (shapes.Conditional (dest_of d) (class_of e) c) → conditional_row (shapes.Conditional (dest_of d) (class_of e) c) ≡ true
  chosen_only c e h = let P : Type 0 = conditional_row (shapes.Conditional (dest_of d) (class_of e) c) ≡ true in either P (conditional_row (shapes.Conditional (dest_of d) (class_of e) c)) false (λ i. i) (none_more P) h

  -- the register, its operand, and that the condition is one of an instruction
  pub chosen_parts : (e k : Expr) (t : TypedLeft d (value e)) → IsExpanded home e → is_rm (dest_of d) ≡ true → FieldsKept d None e (Some k)
      → conditional_row (shapes.Conditional (dest_of d) (class_of e) (has_flags k)) ≡ true → IsChosen home d e × (has_flags k ≡ true)
  chosen_parts e k t y r f h =
      let z = t.size in
      let p = and_parts (is_r (dest_of d)) _ h in
      let q = and_parts (is_wide (class_size (dest_of d))) _ p.1 in
      let w = and_parts (is_rm (class_of e)) (has_flags k) q.1 in
      let D = left_there home z d x t.holds r in
      let b = variable_of D.stands p.0 in
      let g = register_of home z d D.arg' D.leaks D.is (ap is_variable b.1) in
      let O = operand_there home z (place.word z) e of_size y t.typed (or_left (is_rm (class_of e)) (is_i (class_of e)) w.0) in
      let m = stands_place O.stands w.0 in (
        record {
          size = z;
          dest = D.arg';
          register = g;
          wide = wide_of (class_size (dest_of d)) z D.sized q.0;
          arg' = O.arg';
          leaks = O.leaks;
          is = O.is;
          in_place = m;
          no_number = not_imm O.arg' (place_not_imm O.arg' m);
          fits = O.fits None (operand_kept z w.0 (D.class_own) (size_by D t.own) f.right);
        },
        w.1,
      )
    where
      size_by : (D : LeftAs home t.size d) → OwnSize d (value e) t.size → option_or (left_sizes (d ∷ [])) (own_size e) ≡ Some t.size
      size_by D (of_left w) = left_first (left_size d) t.size (own_size e) (D.wanted w)
      size_by D (of_right n s) = right_first (left_size d) t.size (own_size e) n (says_own home e (place.word t.size) t.size y t.typed s)

      not_inline : is_rm (class_of e) ≡ true → is_inline e ≡ false
      not_inline h = by_test (is_inline e) refl
        where
          by_value : IsNumber e ⊎ IsTruth e → ⊥
          by_value (inl n) = false≢true (sym (ap (λ w. is_rm (class_of w)) n.2 ∙ ap (λ l. is_rm (class_layer l)) (out_num n.0 n.1)) ∙ h)
          by_value (inr n) = false≢true (sym (ap (λ w. is_rm (class_of w)) n.2 ∙ ap (λ l. is_rm (class_layer l)) (out_bool n.0 n.1)) ∙ h)

          by_test : (b : Bool) → is_inline e ≡ b → b ≡ false
          by_test true i = absurd (by_value (inline_is home e y i))
          by_test false i = refl

      and_false : (a b : Bool) → b ≡ false → (a && b) ≡ false
      and_false true b i = i
      and_false false b i = refl

      operand_kept : (z : Size) → is_rm (class_of e) ≡ true → (left_size d ≡ Some z → class_size (dest_of d) ≡ Some z) → option_or (left_sizes (d ∷ [])) (own_size e) ≡ Some z → (value_parts no_numbers (Some d) (left_sizes (d ∷ [])) None e).fields ≡ [] → IsKept z e
      operand_kept z h i s f =
          subst (λ w. (seen (record { place = None; size = w }) e).operand ≡ None) s
          (first_none _
          (free_or (is_free (to_register (Some d)) None e) (option_or (left_sizes (d ∷ [])) (own_size e)) role.Operand e f (and_false (to_register (Some d)) (is_inline e) (not_inline h))))

  pub chosen_there : (e k : Expr) (at : Span) (t : TypedLeft d (value e)) → IsExpanded home e → IsExpanded home k → HasType (value k) place.truth → IsComparison k → is_rm (dest_of d) ≡ true → FieldsKept d None e (Some k)
      → conditional_row (shapes.Conditional (dest_of d) (class_of e) (has_flags k)) ≡ true → HasRowOperations home (assign (d ∷ []) None e (Some k) at)
  chosen_there e k at t y u v c r f h =
      let parts = chosen_parts e k t y r f h in
      let C = parts.0 in
      let K = compared_there home at k u v parts.1 c (fields_condition home k u parts.1 f.condition) in
      subst (λ d. HasRowOperations home (assign (d ∷ []) None e (Some k) at)) (sym C.register.left_is) (
        _,
        _,
        sets_if C.size C.wide C.register.kind_is C.register.there C.is C.no_number K.is
            (encode (action.Cmov (conditions.Cc K.cond) C.size C.register.number C.arg') (λ a b. cmov_spelled a (conditions.Cc K.cond) C.size C.register.number C.arg' C.wide C.in_place (C.fits a b))),
      )

-- ---- assignments
pub takes_of : (d : Lval) (o : Option BinOp) (e : Expr) → Values (d ∷ []) o e → Takes d (value_term o d e)
takes_of d o e (lefts.one t) = t

pub assignments : AssignmentsHaveOperations
assignments frame home d o e None at homing r c = by_operator o r c
  where
    by_operator : (o : Option BinOp) → IsReadyAssign home d o e None at → IsCovered d o e None → HasRowOperations home (assign (d ∷ []) o e None at)
    by_operator None r c =
        let m = assign_matches d None e None c.row c.selected in
        let k = assigned_rm d None e m in
        value_there frame home homing d r.left e at (typed_left home d (value e) r.left k (takes_of d None e r.typed)) r.right k c.other (fields_kept home d None e None at r.left r.within) m
    by_operator (Some p) r c =
        let m = assign_matches d (Some p) e None c.row c.selected in
        let k = assigned_rm d (Some p) e m in
        update_there frame home homing d r.left p e at (typed_left home d (result p d e) r.left k (takes_of d (Some p) e r.typed)) r.right k c.other (fields_kept home d (Some p) e None at r.left r.within) m
assignments frame home d None e (Some k) at homing r c =
    let m = chosen_only frame home homing d r.left (has_flags k) e (assign_matches d None e (Some k) c.row c.selected) in
    let rm = r_rm (dest_of d) (and_parts (is_r (dest_of d)) _ m).0 in
    chosen_there frame home homing d r.left e k at (typed_left home d (value e) r.left rm (takes_of d None e r.typed)) r.right r.condition r.typed_condition c.compared rm (fields_kept home d None e (Some k) at r.left r.within) m
  where
    r_rm : (c : Class) → is_r c ≡ true → is_rm c ≡ true
    r_rm c h = or_left (is_r c) _ h
assignments frame home d (Some p) e (Some k) at homing r c = absurd (no_free (assign_matches d (Some p) e (Some k) c.row c.selected))

-- ---- tests
bin_not_bool : (o : BinOp) (a b : Expr) (at : Span) (c : Bool) (there : Span) (l : Layer) → l ≡ Expr-F.Bin o a b at → l ≡ Expr-F.Expr::Bool c there → ⊥
bin_not_bool o a b at c there l e f = absurd cc

not_not_bool : (a : Expr) (at : Span) (c : Bool) (there : Span) (l : Layer) → l ≡ Expr-F.Not a at → l ≡ Expr-F.Expr::Bool c there → ⊥
not_not_bool a at c there l e f = absurd cc

flags_of : (home : Homes) (c : Expr) → IsExpanded home c → IsComparison c → is_test c ≡ true → has_flags c ≡ true
flags_of home c x k h = by_part (or_parts (has_flags c) (look_of c).condition h)
  where
    no_truth : (e : Expr) → IsComparison e → IsTruth e → ⊥
    no_truth e (covered.compares o a b at g) t = bin_not_bool o a b at t.0 t.1 _ (out_bin o a b at) (ap out-Expr t.2 ∙ out_bool t.0 t.1)
    no_truth e (covered.denies a at g) t = not_not_bool a at t.0 t.1 _ (out_not a at) (ap out-Expr t.2 ∙ out_bool t.0 t.1)

    by_part : (has_flags c ≡ true) ⊎ ((look_of c).condition ≡ true) → has_flags c ≡ true
    by_part (inl e) = e
    by_part (inr e) = absurd (no_truth c k (condition_truth home c x e))

condition_kept : (home : Homes) (c : Expr) → IsExpanded home c → has_flags c ≡ true → asked_condition no_numbers c ≡ [] → (seen (at_compared c) c).operand ≡ None
condition_kept home c x h e = fields_condition home c x h (fields_none (asked_as no_numbers role.Test None c) e)

pub tests_there : TestsHaveOperations
tests_there home t r c =
    let h = flags_of home t.cond r.expanded c r.matches in
    let K = compared_there home t.at t.cond r.expanded r.typed h c (condition_kept home t.cond r.expanded h r.within) in
    (_, _, tests K.is)

pub loop_tests_there : LoopTestsHaveOperations
loop_tests_there home t r (inl c) = let k = tests_there home t r c in (k.0, k.1, tests_each k.2)
loop_tests_there home t r (inr e) = (_, _, never_false e.0 e.1)
