-- Assignments to one left side have operations.
use Rattle.std.proofs.Common.{◌≡◌, Bool, true, false, ◌&&◌, [], ◌∷◌, Option, Some, None, refl, sym, ap, ◌∙◌, subst, inl, inr, if◌then◌else◌}
use Rattle.std.specs.Prelude.{◌⊎◌}
use Rattle.std.specs.Option.{option_or}
use Rattle.std.proofs.lemmas.Bool.{false≢true, and_parts}
use Rattle.jz_io.specs.declared.span.Span.{Span}
use Rattle.jz_tree.specs.Operators.{divides, carries, is_shift}
use Rattle.jz_tree.specs.declared.expr.BinOp.{BinOp}
use Rattle.jz_tree.specs.declared.expr.BinOp.TheVariants as op
use Rattle.jz_tree.specs.declared.expr.Expr.{Expr}
use Rattle.jz_tree.specs.declared.expr.Expr.TheVariants as expr
use Rattle.jz_tree.specs.declared.expr.Expr.TheOpen.{Expr-F}
use Rattle.jz_tree.specs.declared.expr.Expr.TheViews.{out-Expr}
use Rattle.jz_tree.specs.declared.stmt.Lval.{Lval}
use Rattle.jz_type_names.specs.Kinds.{is_inline}
use Rattle.jz_select.specs.declared.class.Class.{Class}
use Rattle.jz_select.specs.declared.class.Class.TheVariants as class
use Rattle.jz_select.specs.declared.shape.Value.{Value}
use Rattle.jz_select.specs.declared.shape.Value.TheVariants as values
use Rattle.jz_select.specs.declared.shape.Shape.TheVariants as shapes
use Rattle.jz_select.specs.Places.{Layer}
use Rattle.jz_select.specs.Operands.{class_of, dest_of, operand_of}
use Rattle.jz_select.specs.Rows.{is_r, is_rm, is_rmi, is_long, class_size, is_flag, copy_row}
use Rattle.jz_select.specs.Shapes.{whichever, itself, has_flags, assign_of, carry_layer, value_layer, update_layer}
use Rattle.jz_judgement.specs.Places as place
use Rattle.jz_judgement.specs.HasType.{value, left, result, HasType, Operates}
use Rattle.jz_row_laws.proofs.Booleans.{or_left}
use Rattle.jz_row_laws.proofs.Copied.{Matches, no_free}
use Rattle.jz_run_laws.proofs.Sizes.{right_type}
use Rattle.jz_meaning.specs.Values.{own_size}
use Rattle.jz_meaning.specs.Assignments.{left_size, left_sizes, as_expr, left_span, is_flag as flag_expr, updated_layer, updated}
use Rattle.jz_meaning.specs.Statements.{assign}
use Rattle.jz_limits.specs.Values.{no_numbers}
use Rattle.jz_limits.specs.Asked.{asked_as, value_role}
use Rattle.jz_operations.specs.Rows.{Frame}
use Rattle.jz_homes.specs.Homes.{Homes, IsHoming}
use Rattle.jz_one_row.proofs.Outs.{out_num, out_bool, out_var, out_cell, out_load, out_neg, out_not, out_cast, out_bin}
use Rattle.jz_flag_rows.specs.Rows.{quotients}
use Rattle.jz_every_row.specs.Statements.{by_row, by_flags}
use Rattle.jz_total_rows.specs.Expanded.{IsExpanded, a_number, a_truth, a_variable, a_cell, a_load, a_minus, a_denial, a_cast, of_two, IsExpandedLeft}
use Rattle.jz_total_rows.specs.Covered.{divides_layer, IsComparison}
use Rattle.jz_total_rows.specs.Laws.{HasRowOperations}
use Rattle.jz_total_rows.proofs.Forms.{two_inline}
use Rattle.jz_total_rows.proofs.Meets.{A}
use Rattle.jz_total_rows.proofs.Operands.{of_size, typed_as, operand_there, LeftAs, left_there, left_read}
use Rattle.jz_total_rows.proofs.Counting.{says_own}
use Rattle.jz_total_rows.proofs.KeptLimits.{two_kept}
use Rattle.jz_total_rows.proofs.Assigned.{none_more, either, first_by, second_by, if_false, at_size}
use Rattle.jz_total_rows.proofs.RightSides.{within_kept, no_move, operates_at}
use Rattle.jz_total_rows.proofs.Statements.{assign_matches, assigned_rm, OwnSize, of_left, of_right, TypedLeft, typed_left, left_first, right_first, read_size, behind_says, updated_size}
use Rattle.jz_total_rows.proofs.Whole.{FieldsKept, fields_kept, within_value, value_there, operates_left, counted_kept, left_expr, update_there, chosen_only, chosen_parts, chosen_there, takes_of}
use Rattle.jz_total_flags.specs.Ready.{HasOperations, AllAssignmentsHaveOperations}
use Rattle.jz_total_flags.proofs.Tests.{IsFlagOf, flag_or_comparison}
use Rattle.jz_total_flags.proofs.Choices.{flag_choice}
use Rattle.jz_total_flags.proofs.Quotients.{divides_arith, divides_no_shift, quotient_only, quotient_found}

-- ---- a quotient carries no flag
no_carry : (o p : BinOp) → divides o ≡ true → carries o p ≡ false
no_carry op.Div p h = refl
no_carry op.Rem p h = refl
no_carry op.DivS p h = refl
no_carry op.RemS p h = refl
no_carry o p h = absurd (false≢true h)

alone_layer : (d : Lval) (o : BinOp) (w : Layer) → divides o ≡ true → carry_layer (whichever A) d o w ≡ values.Alone
alone_layer d o (Expr-F.Bin p u v at) h = ap (λ b. if b then values.Carry o (operand_of A d u) (operand_of A d v) else values.Alone) (no_carry o p h)
alone_layer d o (Expr-F.Num i at) h = refl
alone_layer d o (Expr-F.Expr::Bool b at) h = refl
alone_layer d o (Expr-F.Var v) h = refl
alone_layer d o (Expr-F.Cell v i) h = refl
alone_layer d o (Expr-F.Load a) h = refl
alone_layer d o (Expr-F.Neg a at) h = refl
alone_layer d o (Expr-F.Not a at) h = refl
alone_layer d o (Expr-F.Cast z s a at) h = refl

plain_update : (d : Lval) (o : BinOp) (e : Expr) (w : Layer) → divides o ≡ true → update_layer (whichever A) d o e w ≡ values.Two o (itself d) (operand_of A d e)
plain_update d o e (Expr-F.Bin p u v at) h = ap (λ b. if b && is_flag (class_of v) then values.Carry o (itself d) (operand_of A d u) else values.Two o (itself d) (operand_of A d e)) (no_carry o p h)
plain_update d o e (Expr-F.Num i at) h = refl
plain_update d o e (Expr-F.Expr::Bool b at) h = refl
plain_update d o e (Expr-F.Var v) h = refl
plain_update d o e (Expr-F.Cell v i) h = refl
plain_update d o e (Expr-F.Load a) h = refl
plain_update d o e (Expr-F.Neg a at) h = refl
plain_update d o e (Expr-F.Not a at) h = refl
plain_update d o e (Expr-F.Cast z s a at) h = refl

plain_updated : (o : BinOp) (r e : Expr) (here : Span) (w : Layer) → divides o ≡ true → updated_layer o r e here w ≡ expr.Bin o r e here
plain_updated o r e here (Expr-F.Bin p u v at) h = ap (λ b. if b && flag_expr v then expr.Bin p (expr.Bin o r u here) v here else expr.Bin o r e here) (no_carry o p h)
plain_updated o r e here (Expr-F.Num i at) h = refl
plain_updated o r e here (Expr-F.Expr::Bool b at) h = refl
plain_updated o r e here (Expr-F.Var v) h = refl
plain_updated o r e here (Expr-F.Cell v i) h = refl
plain_updated o r e here (Expr-F.Load a) h = refl
plain_updated o r e here (Expr-F.Neg a at) h = refl
plain_updated o r e here (Expr-F.Not a at) h = refl
plain_updated o r e here (Expr-F.Cast z s a at) h = refl

-- ---- by which table
as_made : (home : Homes) (d : Lval) (o : Option BinOp) (e : Expr) (c : Option Expr) (at : Span) → HasRowOperations home (assign (d ∷ []) o e c at) → HasOperations home (assign (d ∷ []) o e c at)
as_made home d o e c at h = (h.0, h.1, by_row h.2)

module _ (frame : Frame) (home : Homes) (homing : IsHoming frame home) (d : Lval) (x : IsExpandedLeft home d) where
  -- ---- `d = a / b`
  divided : (o : BinOp) (a b : Expr) (here at : Span) (n : (is_inline a && is_inline b) ≡ false) → IsExpanded home a → IsExpanded home b → divides o ≡ true → (t : TypedLeft d (value (expr.Bin o a b here))) → (r : is_rm (dest_of d) ≡ true)
      → FieldsKept d None (expr.Bin o a b here) None → Matches (assign_of (whichever A) None d None (expr.Bin o a b here)) → HasOperations home (assign (d ∷ []) None (expr.Bin o a b here) None at)
  divided o a b here at n xa xb v t r f h =
      let w = expr.Bin o a b here in
      let z = t.size in
      let D = left_there home z d x t.holds r in
      let fd = D.fits f.left_side in
      let size = size_by D t.own in
      let k = operates_at frame home homing z d D r fd o a b here (typed_as w (Expr-F.Bin o a b here) (place.word z) (out_bin o a b here) t.typed) in
      let kept = within_kept frame home homing z d D r fd w (two_inline o a b here ∙ n) (within_value frame home homing d x w z (of_two o a b here n xa xb) D r fd size f.right) in
      let limits = two_kept (at_size z) o a b here n kept in
      let none = no_move frame home homing z d D r fd o a b here n xa xb k kept in
      let m = quotient_only (dest_of d) (class_of w) o (operand_of A d a) (operand_of A d b) v (none (values.Two o (operand_of A d a) (operand_of A d b)))
      (two_only none (is_flag (class_of b)) (subst (λ l. Matches (shapes.Assign None (dest_of d) (class_of w) (value_layer (whichever A) d l))) (out_bin o a b here) h)) in
      let rmi = (and_parts (is_rmi (class_of a)) _ (and_parts (is_long (class_size (dest_of d))) _ (and_parts (is_r (dest_of d)) _ m).1).1).0 in
      let O = operand_there home z (place.word z) a of_size xa (first_by o (value a) (value b) (place.word z) z refl k) rmi in
      let Q = quotient_found frame home homing z d D r fd o a b O.arg' O.leaks (operand_of A d a) O.is (O.fits None limits.0) xb (λ g. second_by o (value a) b (place.word z) z refl (divides_arith o v) g k)
      (if_false (is_shift o) _ _ _ (divides_no_shift o v) limits.1) v m in
      (_, _, by_flags (quotients {at = at} here refl Q.divides size Q.long Q.result Q.first Q.second Q.no_number Q.apart Q.can))
    where
      size_by : (D : LeftAs home t.size d) → OwnSize d (value (expr.Bin o a b here)) t.size → option_or (left_sizes (d ∷ [])) (own_size (expr.Bin o a b here)) ≡ Some t.size
      size_by D (of_left w) = left_first (left_size d) t.size (own_size (expr.Bin o a b here)) (D.wanted w)
      size_by D (of_right m s) = right_first (left_size d) t.size (own_size (expr.Bin o a b here)) m (says_own home (expr.Bin o a b here) (place.word t.size) t.size (of_two o a b here n xa xb) t.typed s)

      two_only : ((u : Value) → copy_row (shapes.Assign None (dest_of d) (class_of (expr.Bin o a b here)) u) ≡ true → ⊥) → (c : Bool)
          → Matches (shapes.Assign None (dest_of d) (class_of (expr.Bin o a b here)) (if c then carry_layer (whichever A) d o (out-Expr a) else values.Two o (operand_of A d a) (operand_of A d b)))
          → Matches (shapes.Assign None (dest_of d) (class_of (expr.Bin o a b here)) (values.Two o (operand_of A d a) (operand_of A d b)))
      two_only none false g = g
      two_only none true g =
          let P : Type 0 = Matches (shapes.Assign None (dest_of d) (class_of (expr.Bin o a b here)) (values.Two o (operand_of A d a) (operand_of A d b))) in
          either P (copy_row (shapes.Assign None (dest_of d) (class_of (expr.Bin o a b here)) values.Alone)) false (λ e. absurd (none values.Alone e)) (none_more P)
          (subst (λ u. Matches (shapes.Assign None (dest_of d) (class_of (expr.Bin o a b here)) u)) (alone_layer d o (out-Expr a) v) g)

  quotient_value : (e : Expr) (at : Span) → IsExpanded home e → divides_layer (out-Expr e) ≡ true → (t : TypedLeft d (value e)) → is_rm (dest_of d) ≡ true → FieldsKept d None e None → Matches (assign_of (whichever A) None d None e) → HasOperations home (assign (d ∷ []) None e None at)
  quotient_value e at (a_number i s) v t r f h = absurd (false≢true (sym (ap divides_layer (out_num i s)) ∙ v))
  quotient_value e at (a_truth b s) v t r f h = absurd (false≢true (sym (ap divides_layer (out_bool b s)) ∙ v))
  quotient_value e at (a_variable u y) v t r f h = absurd (false≢true (sym (ap divides_layer (out_var u)) ∙ v))
  quotient_value e at (a_cell u i y w) v t r f h = absurd (false≢true (sym (ap divides_layer (out_cell u i)) ∙ v))
  quotient_value e at (a_load a y) v t r f h = absurd (false≢true (sym (ap divides_layer (out_load a)) ∙ v))
  quotient_value e at (a_minus a s n y) v t r f h = absurd (false≢true (sym (ap divides_layer (out_neg a s)) ∙ v))
  quotient_value e at (a_denial a s n y) v t r f h = absurd (false≢true (sym (ap divides_layer (out_not a s)) ∙ v))
  quotient_value e at (a_cast z g a s y) v t r f h = absurd (false≢true (sym (ap divides_layer (out_cast z g a s)) ∙ v))
  quotient_value e at (of_two o a b s n y w) v t r f h = divided o a b s at n y w (sym (ap divides_layer (out_bin o a b s)) ∙ v) t r f h

  -- ---- `d /= e`
  quotient_update : (o : BinOp) (e : Expr) (at : Span) → IsExpanded home e → divides o ≡ true → (t : TypedLeft d (result o d e)) → is_rm (dest_of d) ≡ true → FieldsKept d (Some o) e None → Matches (assign_of (whichever A) None d (Some o) e) → HasOperations home (assign (d ∷ []) (Some o) e None at)
  quotient_update o e at y v t r f h =
      let z = t.size in
      let D = left_there home z d x t.holds r in
      let fd = D.fits f.left_side in
      let g = left_expr frame home homing d x r in
      let k = operates_left frame home homing d x o e (place.word z) t.typed in
      let size = whole_size g.0 g.1 D k t.own in
      let kept = counted_kept frame home homing d x z o e (subst (λ w. (asked_as no_numbers (value_role (Some o)) w e).fields ≡ []) (wanted D k t.own) f.right) in
      let m = quotient_only (dest_of d) class.Other o (itself d) (operand_of A d e) v (λ i. false≢true (and_parts (is_rm (dest_of d)) false i).1)
      (subst (λ u. Matches (shapes.Assign None (dest_of d) class.Other u)) (plain_update d o e (out-Expr e) v) h) in
      let Q = quotient_found frame home homing z d D r fd o g.0 e D.arg' D.leaks (itself d) (left_read home z d D.arg' D.leaks g.0 D.is g.1) fd y (λ i. second_by o (left d) e (place.word z) z refl (divides_arith o v) i k)
      (if_false (is_shift o) _ _ _ (divides_no_shift o v) kept) v m in
      let whole = ap (λ w. updated w o e (left_span d)) g.1 ∙ ap (λ w. Some w) (plain_updated o g.0 e (left_span d) (out-Expr e) v) in
      (_, _, by_flags (quotients {at = at} (left_span d) whole Q.divides (sym (ap (λ w. option_or (left_sizes (d ∷ [])) (own_size w)) (plain_updated o g.0 e (left_span d) (out-Expr e) v)) ∙ size) Q.long Q.result Q.first Q.second Q.no_number Q.apart Q.can))
    where
      typed_right : Operates o (left d) (value e) (place.word t.size) → (p : place.Place) × HasType (value e) p
      typed_right k = right_type o (left d) (value e) (place.word t.size) k

      wanted : (D : LeftAs home t.size d) → Operates o (left d) (value e) (place.word t.size) → OwnSize d (result o d e) t.size → option_or (left_sizes (d ∷ [])) (own_size e) ≡ Some t.size
      wanted D k (of_left w) = left_first (left_size d) t.size (own_size e) (D.wanted w)
      wanted D k (of_right n s) =
          let b = behind_says home d o e t.size x n s in
          let u = typed_right k in
          right_first (left_size d) t.size (own_size e) n (says_own home e u.0 t.size y u.1 b.says)

      whole_size : (r : Expr) → as_expr d ≡ Some r → (D : LeftAs home t.size d) → Operates o (left d) (value e) (place.word t.size) → OwnSize d (result o d e) t.size
          → option_or (left_sizes (d ∷ [])) (own_size (updated_layer o r e (left_span d) (out-Expr e))) ≡ Some t.size
      whole_size r g D k (of_left w) = left_first (left_size d) t.size _ (D.wanted w)
      whole_size r g D k (of_right n s) =
          let b = behind_says home d o e t.size x n s in
          let u = typed_right k in
          right_first (left_size d) t.size _ n
          (updated_size o r e (left_span d) t.size b.arith (read_size d r g ∙ n) (says_own home e u.0 t.size y u.1 b.says) (out-Expr e) refl)

-- ---- assignments
r_rm : (c : Class) → is_r c ≡ true → is_rm c ≡ true
r_rm c h = or_left (is_r c) _ h

pub assignments : AllAssignmentsHaveOperations
assignments frame home d None e None at homing r row =
    let m = assign_matches d None e None row.0 row.1 in
    let k = assigned_rm d None e m in
    let t = typed_left home d (value e) r.left k (takes_of d None e r.typed) in
    let f = fields_kept home d None e None at r.left r.within in
    by (divides_layer (out-Expr e)) refl m k t f
  where
    by : (b : Bool) → divides_layer (out-Expr e) ≡ b → Matches (assign_of (whichever A) None d None e) → is_rm (dest_of d) ≡ true → TypedLeft d (value e) → FieldsKept d None e None → HasOperations home (assign (d ∷ []) None e None at)
    by true v m k t f = quotient_value frame home homing d r.left e at r.right v t k f m
    by false v m k t f = as_made home d None e None at (value_there frame home homing d r.left e at t r.right k v f m)
assignments frame home d (Some o) e None at homing r row =
    let m = assign_matches d (Some o) e None row.0 row.1 in
    let k = assigned_rm d (Some o) e m in
    let t = typed_left home d (result o d e) r.left k (takes_of d (Some o) e r.typed) in
    let f = fields_kept home d (Some o) e None at r.left r.within in
    by (divides o) refl m k t f
  where
    by : (b : Bool) → divides o ≡ b → Matches (assign_of (whichever A) None d (Some o) e) → is_rm (dest_of d) ≡ true → TypedLeft d (result o d e) → FieldsKept d (Some o) e None → HasOperations home (assign (d ∷ []) (Some o) e None at)
    by true v m k t f = quotient_update frame home homing d r.left o e at r.right v t k f m
    by false v m k t f = as_made home d (Some o) e None at (update_there frame home homing d r.left o e at t r.right k v f m)
assignments frame home d None e (Some k) at homing r row =
    let m = chosen_only frame home homing d r.left (has_flags k) e (assign_matches d None e (Some k) row.0 row.1) in
    let rm = r_rm (dest_of d) (and_parts (is_r (dest_of d)) _ m).0 in
    let t = typed_left home d (value e) r.left rm (takes_of d None e r.typed) in
    let f = fields_kept home d None e (Some k) at r.left r.within in
    let C = chosen_parts frame home homing d r.left e k t r.right rm f m in
    by (flag_or_comparison home k r.condition C.1)
  where
    by : IsComparison k ⊎ IsFlagOf home k → HasOperations home (assign (d ∷ []) None e (Some k) at)
    by (inl c) =
        let m = chosen_only frame home homing d r.left (has_flags k) e (assign_matches d None e (Some k) row.0 row.1) in
        let rm = r_rm (dest_of d) (and_parts (is_r (dest_of d)) _ m).0 in
        let t = typed_left home d (value e) r.left rm (takes_of d None e r.typed) in
        as_made home d None e (Some k) at (chosen_there frame home homing d r.left e k at t r.right r.condition r.typed_condition c rm (fields_kept home d None e (Some k) at r.left r.within) m)
    by (inr g) =
        let m = chosen_only frame home homing d r.left (has_flags k) e (assign_matches d None e (Some k) row.0 row.1) in
        let rm = r_rm (dest_of d) (and_parts (is_r (dest_of d)) _ m).0 in
        let t = typed_left home d (value e) r.left rm (takes_of d None e r.typed) in
        flag_choice home d e k at (chosen_parts frame home homing d r.left e k t r.right rm (fields_kept home d None e (Some k) at r.left r.within) m).0 g
assignments frame home d (Some p) e (Some k) at homing r row = absurd (no_free (assign_matches d (Some p) e (Some k) row.0 row.1))
