-- The row of `d = e` and of `d op= e`.
use Rattle.std.proofs.Common.{◌≡◌, ℕ, ◌<◌, ◌≤◌, Bool, true, false, not, ◌&&◌, ◌||◌, Option, Some, None, refl, sym, ap, ◌∙◌, subst, inl, inr, if◌then◌else◌, ℤ}
use Rattle.std.specs.Prelude.{◌⊎◌, nat_lt}
use Rattle.std.specs.Option.{option_or}
use Rattle.std.proofs.lemmas.Bool.{false≢true, true≢false, and_parts, ltb-true, ltb-false}
use Rattle.jz_words.specs.declared.size.Size.{Size}
use Rattle.jz_words.specs.Sizes.{bits_of}
use Rattle.jz_words.specs.Readings.{reading_of}
use Rattle.x64_insn.specs.declared.types.One.TheVariants as one
use Rattle.jz_tree.specs.Span.{Span}
use Rattle.jz_tree.specs.Operators.{carries, divides, is_shift}
use Rattle.jz_tree.specs.declared.expr.BinOp.{BinOp}
use Rattle.jz_tree.specs.declared.expr.Expr.{Expr}
use Rattle.jz_tree.specs.declared.expr.Expr.TheVariants as expr
use Rattle.jz_tree.specs.declared.expr.Expr.TheOpen.{Expr-F}
use Rattle.jz_tree.specs.declared.expr.Expr.TheViews.{out-Expr}
use Rattle.jz_tree.specs.declared.stmt.Lval.{Lval}
use Rattle.jz_type_names.specs.Kinds.{is_inline}
use Rattle.jz_type_sizes.specs.declared.operators.Group.TheVariants as group
use Rattle.jz_type_sizes.specs.Operators.{group_of}
use Rattle.jz_select.specs.declared.class.Class.{Class}
use Rattle.jz_select.specs.declared.class.Class.TheVariants as class
use Rattle.jz_select.specs.declared.class.Operand.{Operand}
use Rattle.jz_select.specs.declared.shape.Value.{Value}
use Rattle.jz_select.specs.declared.shape.Value.TheVariants as values
use Rattle.jz_select.specs.declared.shape.Shape as rowed
use Rattle.jz_select.specs.declared.shape.Shape.TheVariants as shapes
use Rattle.jz_select.specs.Places.{Layer}
use Rattle.jz_select.specs.Operands.{class_of, dest_of, operand_of}
use Rattle.jz_select.specs.Rows.{is_r, is_m, is_i, is_rm, is_rmi, is_flag, class_size, are_inline, computes, swaps, is_below, is_wide, is_long, is_longest, masks, adds, joins_bits, multiplies, copy_row, arithmetic_row, carrying_row, unary_row, times_row, times_inline_row, quotient_row, inline_shift_row, masked_shift_row, zero_extension_row, sign_extension_row, truncation_row}
use Rattle.jz_select.specs.Shapes.{whichever, itself, carry_layer, two_beside, value_layer, update_layer}
use Rattle.jz_judgement.specs.Places as place
use Rattle.jz_judgement.specs.HasType as judged
use Rattle.jz_judgement.specs.HasType.{value, left, HasType, Types, Operates, Says}
use Rattle.jz_row_laws.proofs.Booleans.{or_left}
use Rattle.jz_row_laws.proofs.Copied.{Matches}
use Rattle.jz_stuck_runs.proofs.Updates.{sum_typed}
use Rattle.jz_one_row.proofs.Outs.{out_num, out_bool, out_var, out_cell, out_load, out_neg, out_not, out_cast, out_bin}
use Rattle.jz_meaning.specs.Values.{own_size}
use Rattle.jz_meaning.specs.Assignments.{left_size, as_expr, left_span, updated_layer}
use Rattle.jz_limits.specs.InnerLooked.{count_field}
use Rattle.jz_operations.specs.declared.operation.Address.{Address}
use Rattle.jz_operations.specs.declared.operation.Cell.{Cell}
use Rattle.jz_operations.specs.declared.operation.Arg.{Arg}
use Rattle.jz_operations.specs.declared.operation.Arg.TheVariants as arg
use Rattle.jz_operations.specs.declared.operation.Action.TheVariants as action
use Rattle.jz_operations.specs.Rows.{Frame}
use Rattle.jz_encodable.specs.Encodable.{is_spelled_at}
use Rattle.jz_homes.specs.Homes.{Homes, IsHoming}
use Rattle.jz_homes.specs.Operands as operands
use Rattle.jz_homes.specs.Operands.{Leaks, silent, IsArg}
use Rattle.jz_row_operations.specs.Rows as rows
use Rattle.jz_row_operations.specs.Table.{is_imm}
use Rattle.jz_total_rows.specs.Expanded.{IsExpanded, a_number, a_truth, a_variable, a_cell, a_load, a_minus, a_denial, a_cast, of_two}
use Rattle.jz_total_rows.specs.Covered.{divides_layer}
use Rattle.jz_total_rows.proofs.Forms.{minus_inline, denial_inline, cast_inline, two_inline}
use Rattle.jz_total_rows.proofs.InlineValues.{IsNumber, number_is_inline, not_both}
use Rattle.jz_total_rows.proofs.Summed.{seen}
use Rattle.jz_total_rows.proofs.Fits.{Fits, mov_spelled, number_spelled}
use Rattle.jz_total_rows.proofs.Stands.{stands_i, stands_place, variable_of, kept_both}
use Rattle.jz_total_rows.proofs.Meets.{A}
use Rattle.jz_total_rows.proofs.Bringing.{encode, Beside}
use Rattle.jz_total_rows.proofs.Operands.{of_size, of_stated, typed_as, OperandAs, operand_there, LeftAs, left_read}
use Rattle.jz_total_rows.proofs.Counting.{says_own}
use Rattle.jz_total_rows.proofs.Classes.{two_not, class_number, IsFlagVariable, flag_variable, flags_same}
use Rattle.jz_total_rows.proofs.KeptLimits.{two_kept, minus_kept, denial_kept, cast_kept}
use Rattle.jz_total_rows.proofs.Rows.{RowFound, move_found, carry_found, sign_found, extend_found, lowest_found}
use Rattle.jz_total_rows.proofs.Assigned.{none_more, either, first_by, second_by, AreCarries, are_carries, no_shift, if_false, at_size, IsKept, beside_operand, beside_itself, two_row}

-- ---- parts
not_true : (b : Bool) → not b ≡ true → b ≡ false
not_true true h = absurd (false≢true h)
not_true false h = refl

rm_not_i : (c : Class) → is_rm c ≡ true → is_i c ≡ true → ⊥
rm_not_i (class.Reg z) h e = false≢true e
rm_not_i (class.Mem z) h e = false≢true e
rm_not_i class.Inline h e = false≢true h
rm_not_i class.Flag h e = false≢true h
rm_not_i (class.Masked m) h e = false≢true h
rm_not_i class.Skip h e = false≢true h
rm_not_i class.Other h e = false≢true h

below : (c : Option Size) (y z : Size) → ((k : Size) → c ≡ Some k → k ≡ y) → is_below c z ≡ true → bits_of y < bits_of z
below None y z f h = absurd (false≢true h)
below (Some k) y z f h = subst (λ s. bits_of s < bits_of z) (f k refl) (ltb-true (bits_of k) (bits_of z) h)

not_below : (c : Class) (y z : Size) → ((k : Size) → class_size c ≡ Some k → k ≡ y) → is_r c ≡ true → not (is_below (class_size c) z) ≡ true → bits_of z ≤ bits_of y
not_below (class.Reg k) y z f r h = subst (λ s. bits_of z ≤ bits_of s) (f k refl) (ltb-false (bits_of k) (bits_of z) (not_true (nat_lt (bits_of k) (bits_of z)) h))
not_below (class.Mem k) y z f r h = absurd (false≢true r)
not_below class.Inline y z f r h = absurd (false≢true r)
not_below class.Flag y z f r h = absurd (false≢true r)
not_below (class.Masked m) y z f r h = absurd (false≢true r)
not_below class.Skip y z f r h = absurd (false≢true r)
not_below class.Other y z f r h = absurd (false≢true r)

-- what is in a variable leaks nothing
cell_var : (c : Cell) (n : ℕ) → arg.Cell c ≡ arg.Var n → ⊥
cell_var c n e = absurd cc

memory_var : (m : Address) (n : ℕ) → arg.Mem m ≡ arg.Var n → ⊥
memory_var m n e = absurd cc

number_var : (i : ℤ) (n : ℕ) → arg.Imm i ≡ arg.Var n → ⊥
number_var i n e = absurd cc

silent_arg : (home : Homes) (z : Size) (e : Expr) (x : Arg) (p : Leaks) → IsArg home z e x p → (n : ℕ) → x ≡ arg.Var n → IsArg home z e (arg.Var n) silent
silent_arg home z e x p (operands.a_word v m h) n s = subst (λ y. IsArg home z (expr.Var v) y silent) s (operands.a_word v m h)
silent_arg home z e x p (operands.a_number i at) n s = absurd (number_var _ n s)
silent_arg home z e x p (operands.a_scalar v w h) n s = absurd (cell_var _ n s)
silent_arg home z e x p (operands.a_cell v i m w t b j c f g) n s = absurd (cell_var _ n s)
silent_arg home z e x p (operands.a_load a t m f g k) n s = absurd (memory_var _ n s)

module _ (frame : Frame) (home : Homes) (homing : IsHoming frame home) (z : Size) (d : Lval) (D : LeftAs home z d) (rd : is_rm (dest_of d) ≡ true) (fd : Fits z D.arg') where
  abbrev S : Class → Value → rowed.Shape
  S c v = shapes.Assign None (dest_of d) c v

  -- a right side is a number for a register, or within the limits of the size
  abbrev pub IsWithin : Expr → Type 0
  IsWithin e = ((is_r (dest_of d) ≡ true) × IsNumber e) ⊎ IsKept z e

  pub within_kept : (e : Expr) → is_inline e ≡ false → IsWithin e → IsKept z e
  within_kept e n (inl h) = absurd (false≢true (sym n ∙ number_is_inline e h.1))
  within_kept e n (inr h) = h

  not_inline_class : (a : Expr) → IsExpanded home a → is_inline a ≡ false → (O : OperandAs home z a) → is_imm O.arg' ≡ false
  not_inline_class a x n O = by_test (is_imm O.arg') refl
    where
      by_test : (t : Bool) → is_imm O.arg' ≡ t → t ≡ false
      by_test true e = absurd (false≢true (sym n ∙ number_is_inline a (class_number home a x (stands_i O.stands ∙ e))))
      by_test false e = refl

  -- ---- moves
  pub move_row : (e : Expr) (v : Value) → IsExpanded home e → HasType (value e) (place.word z) → IsWithin e → copy_row (S (class_of e) v) ≡ true → RowFound home z d e
  move_row e v x t l h = by_limit l
    where
      parts : (is_rmi (class_of e) ≡ true) × (not (is_m (dest_of d) && is_m (class_of e)) ≡ true)
      parts = and_parts (is_rmi (class_of e)) _ (and_parts (is_rm (dest_of d)) _ h).1

      by_limit : IsWithin e → RowFound home z d e
      by_limit (inl k) =
          let i = k.1.0 in
          let b = variable_of D.stands k.0 in
          move_found home z d e (arg.Imm (reading_of z i)) D.arg' silent D.leaks
          (subst (λ y. IsArg home z y (arg.Imm (reading_of z i)) silent) (sym k.1.2) (operands.a_number i k.1.1)) D.is
          (encode (action.Mov z D.arg' (arg.Imm (reading_of z i)))
          (λ c u. subst (λ y. is_spelled_at c (action.Mov z y (arg.Imm (reading_of z i))) ≡ true) (sym b.1) (number_spelled c z b.0 i)))
      by_limit (inr k) =
          let O = operand_there home z (place.word z) e of_size x t parts.0 in
          let f = O.fits None k in
          move_found home z d e O.arg' D.arg' O.leaks D.leaks O.is D.is
          (encode (action.Mov z D.arg' O.arg')
          (λ c u. mov_spelled c z D.arg' O.arg' (stands_place D.stands rd) (kept_both D.stands O.stands parts.1) (fd c u) (f c u)))

  pub alone_row : (e : Expr) → IsExpanded home e → HasType (value e) (place.word z) → IsWithin e → Matches (S (class_of e) values.Alone) → RowFound home z d e
  alone_row e x t l h = let P : Type 0 = RowFound home z d e in either P (copy_row (S (class_of e) values.Alone)) false (move_row e values.Alone x t l) (none_more P) h

  pub at_form : (e : Expr) (l : Layer) → out-Expr e ≡ l → Matches (S (class_of e) (value_layer (whichever A) d (out-Expr e))) → Matches (S (class_of e) (value_layer (whichever A) d l))
  at_form e l s h = subst (λ k. Matches (S (class_of e) (value_layer (whichever A) d k))) s h

  -- ---- signs
  negated_type : (a : Expr) (at : Span) → Types (Expr-F.Neg a at) (place.word z) → HasType (value a) (place.word z)
  negated_type a at (judged.negated k t) = t

  inverted_type : (a : Expr) (at : Span) → Types (Expr-F.Not a at) (place.word z) → HasType (value a) (place.word z)
  inverted_type a at (judged.inverted t) = t

  minus_row : (a : Expr) (at : Span) → is_inline a ≡ false → IsExpanded home a → HasType (value a) (place.word z) → IsKept z (expr.Neg a at) → unary_row (S (class_of (expr.Neg a at)) (values.One (operand_of A d a))) ≡ true → RowFound home z d (expr.Neg a at)
  minus_row a at n x t l h =
      let q = and_parts (is_rmi (class_of a)) _ (and_parts (is_rm (dest_of d)) _ h).1 in
      let O = operand_there home z (place.word z) a of_size x t q.0 in
      let f = O.fits None (minus_kept (at_size z) a at n l) in
      sign_found home z d D.arg' D.leaks D.is (dest_of d) D.stands fd a O.arg' O.leaks O.is (operand_of A d a) (beside_operand frame home homing z d D rd fd a O f) one.Neg (expr.Neg a at) (rows.a_minus a at)
      (not_inline_class a x n O) h

  denial_row : (a : Expr) (at : Span) → is_inline a ≡ false → IsExpanded home a → HasType (value a) (place.word z) → IsKept z (expr.Not a at) → unary_row (S (class_of (expr.Not a at)) (values.One (operand_of A d a))) ≡ true → RowFound home z d (expr.Not a at)
  denial_row a at n x t l h =
      let q = and_parts (is_rmi (class_of a)) _ (and_parts (is_rm (dest_of d)) _ h).1 in
      let O = operand_there home z (place.word z) a of_size x t q.0 in
      let f = O.fits None (denial_kept (at_size z) a at n l) in
      sign_found home z d D.arg' D.leaks D.is (dest_of d) D.stands fd a O.arg' O.leaks O.is (operand_of A d a) (beside_operand frame home homing z d D rd fd a O f) one.Not (expr.Not a at) (rows.a_not a at)
      (not_inline_class a x n O) h

  -- ---- casts
  record CastTyped (y : Size) (a : Expr) : Type 0 where
    pub from : Size
    pub same : y ≡ z
    pub says : Says (value a) from
    pub typed : HasType (value a) (place.stated from)

  cast_typed : (y : Size) (s : Bool) (a : Expr) (at : Span) → Types (Expr-F.Cast y s a at) (place.word z) → CastTyped y a
  cast_typed y s a at (judged.cast k t u v) = record { from = k; same = t; says = u; typed = v }

  module _ (y : Size) (s : Bool) (a : Expr) (at : Span) (x : IsExpanded home a) (t : CastTyped y a) (l : IsKept z (expr.Cast y s a at)) where
    own : own_size a ≡ Some t.from
    own = says_own home a (place.stated t.from) t.from x t.typed t.says

    operand : is_rmi (class_of a) ≡ true → OperandAs home t.from a
    operand h = operand_there home t.from (place.stated t.from) a of_stated x t.typed h

    operand_fits : (h : is_rmi (class_of a) ≡ true) → Fits t.from (operand h).arg'
    operand_fits h = (operand h).fits None (subst (λ o. (seen (record { place = None; size = o }) a).operand ≡ None) own (cast_kept (at_size z) y s a at l))

    extended : (g : Bool) → s ≡ g → is_r (dest_of d) ≡ true → is_rm (class_of a) ≡ true → is_below (class_size (class_of a)) y ≡ true → RowFound home z d (expr.Cast y s a at)
    extended g e r h k =
        let q = or_left (is_rm (class_of a)) (is_i (class_of a)) h in
        let O = operand q in
        subst (λ w. RowFound home z d (expr.Cast w s a at)) (sym t.same)
        (extend_found home z d D.arg' D.leaks D.is (dest_of d) D.stands fd s a t.from O.arg' O.leaks at own
        (subst (λ w. bits_of t.from < bits_of w) t.same (below (class_size (class_of a)) t.from y O.sized k)) O.is (stands_place O.stands h) (operand_fits q) r)

    lowered : s ≡ false → is_r (dest_of d) ≡ true → is_r (class_of a) ≡ true → not (is_below (class_size (class_of a)) y) ≡ true → RowFound home z d (expr.Cast y s a at)
    lowered e r h k =
        let q = or_left (is_rm (class_of a)) (is_i (class_of a)) (or_left (is_r (class_of a)) (is_m (class_of a)) h) in
        let O = operand q in
        let b = variable_of O.stands h in
        subst (λ w. RowFound home z d (expr.Cast w s a at)) (sym t.same)
        (subst (λ g. RowFound home z d (expr.Cast z g a at)) (sym e)
        (lowest_found home z d D.arg' D.leaks D.is (dest_of d) D.stands fd a t.from b.0 at own
        (subst (λ w. bits_of w ≤ bits_of t.from) t.same (not_below (class_of a) t.from y O.sized h k)) (silent_arg home t.from a O.arg' O.leaks O.is b.0 b.1) r))

    cast_rows : (copy_row (S (class_of (expr.Cast y s a at)) (values.Cast y s (class_of a))) ≡ true → RowFound home z d (expr.Cast y s a at)) → Matches (S (class_of (expr.Cast y s a at)) (values.Cast y s (class_of a))) → RowFound home z d (expr.Cast y s a at)
    cast_rows f h =
        let P : Type 0 = RowFound home z d (expr.Cast y s a at) in
        let v : rowed.Shape = S (class_of (expr.Cast y s a at)) (values.Cast y s (class_of a)) in
        either P (copy_row v) (zero_extension_row v || (sign_extension_row v || (truncation_row v || false))) f
        (either P (zero_extension_row v) (sign_extension_row v || (truncation_row v || false))
        (λ e.
        let k = and_parts (not s) _ e in
        let q = and_parts (is_r (dest_of d)) _ k.1 in
        let u = and_parts (is_rm (class_of a)) (is_below (class_size (class_of a)) y) q.1 in
        extended false (not_true s k.0) q.0 u.0 u.1)
        (either P (sign_extension_row v) (truncation_row v || false)
        (λ e.
        let k = and_parts s _ e in
        let q = and_parts (is_r (dest_of d)) _ k.1 in
        let u = and_parts (is_rm (class_of a)) (is_below (class_size (class_of a)) y) q.1 in
        extended true k.0 q.0 u.0 u.1)
        (either P (truncation_row v) false
        (λ e.
        let k = and_parts (not s) _ e in
        let q = and_parts (is_r (dest_of d)) _ k.1 in
        let u = and_parts (is_r (class_of a)) (not (is_below (class_size (class_of a)) y)) q.1 in
        lowered (not_true s k.0) q.0 u.0 u.1)
        (none_more P))))
        h

  -- ---- sums with a flag behind
  -- a: the first operand, which stands beside the destination
  module _ (a b : Expr) (x : Arg) (p : Leaks) (i : IsArg home z a x p) (oa : Operand) (m : Beside z D.arg' x oa) where
    carried_row : (o : BinOp) (c : Expr) (inner at : Span) (k : Class) → rows.IsCarryOp o → IsFlagVariable home c → IsExpanded home b → (is_rmi (class_of b) ≡ true → HasType (value b) (place.word z)) → IsKept z b
        → carrying_row (S k (values.Carry o oa (operand_of A d b))) ≡ true → RowFound home z d (expr.Bin o (expr.Bin o a b inner) c at)
    carried_row o c inner at k w g y t l h =
        let q = and_parts (is_rmi (class_of b)) _ h in
        let u = and_parts (not (are_inline oa (operand_of A d b))) (computes (swaps o) (dest_of d) oa (operand_of A d b)) q.1 in
        let O = operand_there home z (place.word z) b of_size y (t q.0) q.0 in
        subst (λ f. RowFound home z d (expr.Bin o (expr.Bin o a b inner) f at)) (sym g.is)
        (carry_found home z d D.arg' D.leaks D.is (dest_of d) D.stands fd a b x O.arg' p O.leaks i O.is oa (operand_of A d b) m (beside_operand frame home homing z d D rd fd b O (O.fits None l)) o g.var g.number inner at w g.there
        u.0 u.1)

  -- ---- an operation on two
  module _ (o : BinOp) (a b : Expr) (at : Span) (n : (is_inline a && is_inline b) ≡ false) (x : IsExpanded home a) (y : IsExpanded home b) (t : Operates o (value a) (value b) (place.word z)) (l : IsKept z (expr.Bin o a b at)) where
    abbrev pub E : Expr
    E = expr.Bin o a b at

    abbrev P : Type 0
    P = RowFound home z d E

    -- it is no operand itself
    pub no_move : (v : Value) → copy_row (S (class_of E) v) ≡ true → ⊥
    no_move v h = two_not home is_rmi refl refl refl o a b at n x y (and_parts (is_rmi (class_of E)) _ (and_parts (is_rm (dest_of d)) _ h).1).0

    no_alone : Matches (S (class_of E) values.Alone) → ⊥
    no_alone h = either ⊥ (copy_row (S (class_of E) values.Alone)) false (no_move values.Alone) (none_more ⊥) h

    pub limits : IsKept z a × ((if is_shift o then count_field (Some z) (seen (at_size z) b) else (seen (at_size z) b).operand) ≡ None)
    limits = two_kept (at_size z) o a b at n l

    pub first_type : HasType (value a) (place.word z)
    first_type = first_by o (value a) (value b) (place.word z) z refl t

    size_there : OperandAs home z a → (left_size d ≡ Some z) ⊎ Says (value E) z → is_shift o ≡ true → option_or (class_size (dest_of d)) (class_size (class_of a)) ≡ Some z
    size_there O (inl h) s = ap (λ k. option_or k (class_size (class_of a))) (D.class_own h)
    size_there O (inr h) s = by_says (said_layer h)
      where
        said_layer : Says (value E) z → judged.LayerSays (Expr-F.Bin o a b at) z
        said_layer (judged.expression k) = subst (λ w. judged.LayerSays w z) (out_bin o a b at) k

        arith_not : group_of o ≡ group.Arith → ⊥
        arith_not g = true≢false (sym s ∙ no_shift o g)

        or_size : (c : Option Size) → ((k : Size) → c ≡ Some k → k ≡ z) → option_or c (Some z) ≡ Some z
        or_size None f = refl
        or_size (Some k) f = ap (λ k. Some k) (f k refl)

        by_operand : judged.OperandSays o (value a) (value b) z → option_or (class_size (dest_of d)) (class_size (class_of a)) ≡ Some z
        by_operand (judged.first g k) = absurd (arith_not g)
        by_operand (judged.second g k) = absurd (arith_not g)
        by_operand (judged.shifted g k) = ap (option_or (class_size (dest_of d))) (O.said k) ∙ or_size (class_size (dest_of d)) D.sized

        by_says : judged.LayerSays (Expr-F.Bin o a b at) z → option_or (class_size (dest_of d)) (class_size (class_of a)) ≡ Some z
        by_says (judged.operation k) = by_operand k

    first_rmi : Matches (S (class_of E) (values.Two o (operand_of A d a) (operand_of A d b))) → is_rmi (class_of a) ≡ true
    first_rmi h =
        let Q : Type 0 = is_rmi (class_of a) ≡ true in
        let oa = operand_of A d a in
        let ob = operand_of A d b in
        let w : Value = values.Two o oa ob in
        let v : rowed.Shape = S (class_of E) w in
        either Q (copy_row v) (arithmetic_row v || (times_row v || (times_inline_row v || (quotient_row v || (inline_shift_row v || (masked_shift_row v || false)))))) (λ e. absurd (no_move w e))
        (either Q (arithmetic_row v) (times_row v || (times_inline_row v || (quotient_row v || (inline_shift_row v || (masked_shift_row v || false)))))
        (λ e. (and_parts (is_rmi (class_of a)) _ (and_parts (is_rm (dest_of d)) _ (and_parts (not (are_inline oa ob)) _ (and_parts (is_rmi (class_of b)) _ (and_parts (adds o || (joins_bits o && true)) _ e).1).1).1).1).0)
        (either Q (times_row v) (times_inline_row v || (quotient_row v || (inline_shift_row v || (masked_shift_row v || false))))
        (λ e.
        (and_parts (is_rmi (class_of a)) _ (and_parts (is_rm (dest_of d)) _ (and_parts (is_rm (class_of b)) _ (and_parts (is_wide (class_size (dest_of d))) _ (and_parts (is_r (dest_of d)) _ (and_parts (multiplies o) _ e).1).1).1).1).1).0)
        (either Q (times_inline_row v) (quotient_row v || (inline_shift_row v || (masked_shift_row v || false)))
        (λ e. or_left (is_rm (class_of a)) (is_i (class_of a)) (and_parts (is_rm (class_of a)) _ (and_parts (is_wide (class_size (dest_of d))) _ (and_parts (is_r (dest_of d)) _ (and_parts (multiplies o) _ e).1).1).1).0)
        (either Q (quotient_row v) (inline_shift_row v || (masked_shift_row v || false))
        (λ e. (and_parts (is_rmi (class_of a)) _ (and_parts (is_long (class_size (dest_of d))) _ (and_parts (is_r (dest_of d)) _ (and_parts (divides o) _ e).1).1).1).0)
        (either Q (inline_shift_row v) (masked_shift_row v || false)
        (λ e. (and_parts (is_rmi (class_of a)) _ (and_parts (is_rm (dest_of d)) _ (and_parts (is_i (class_of b)) _ (and_parts (is_shift o) _ e).1).1).1).0)
        (either Q (masked_shift_row v) false
        (λ e.
        (and_parts (is_rmi (class_of a)) _ (and_parts (is_rm (dest_of d)) _ (and_parts (masks (is_longest (option_or (class_size (dest_of d)) (class_size (class_of a)))) (class_of b)) _ (and_parts (is_shift o) _ e).1).1).1).0)
        (none_more Q)))))))
        h

    operation_row : (left_size d ≡ Some z) ⊎ Says (value E) z → divides o ≡ false → Matches (S (class_of E) (values.Two o (operand_of A d a) (operand_of A d b))) → P
    operation_row s q h =
        let O = operand_there home z (place.word z) a of_size x first_type (first_rmi h) in
        let f = O.fits None limits.0 in
        two_row frame home homing z d D rd fd a b o at O.arg' O.leaks O.is (operand_of A d a) (beside_operand frame home homing z d D rd fd a O f) y
        (λ i j. not_both a b n (number_is_inline a (class_number home a x i)) j) (class_of E)
        (λ g i. second_by o (value a) b (place.word z) z refl g i t) limits.1 (size_there O s)
        (λ e. absurd (no_move (values.Two o (operand_of A d a) (operand_of A d b)) e)) (λ e. false≢true (sym q ∙ (and_parts (divides o) _ e).0)) h

    -- with a flag behind
    flagged_by : (p : BinOp) (u v : Expr) (inner : Span) → a ≡ expr.Bin p u v inner → (is_inline u && is_inline v) ≡ false → IsExpanded home u → IsExpanded home v → is_flag (class_of b) ≡ true
        → (c : Bool) → carries o p ≡ c → Matches (S (class_of E) (if c then values.Carry o (operand_of A d u) (operand_of A d v) else values.Alone)) → P
    flagged_by p u v inner s m xu xv k false e h = absurd (no_alone h)
    flagged_by p u v inner s m xu xv k true e h =
        either P (copy_row w) (carrying_row w || false) (λ e. absurd (no_move (values.Carry o (operand_of A d u) (operand_of A d v)) e)) (either P (carrying_row w) false by_carry (none_more P)) h
      where
        w : rowed.Shape
        w = S (class_of E) (values.Carry o (operand_of A d u) (operand_of A d v))

        c : AreCarries o p
        c = are_carries o p e

        inner_type : Operates p (value u) (value v) (place.word z)
        inner_type = operates_of p u v inner (typed_as (expr.Bin p u v inner) (Expr-F.Bin p u v inner) (place.word z) (out_bin p u v inner) (subst (λ w. HasType (value w) (place.word z)) s first_type))
          where
            operates_of : (p : BinOp) (u v : Expr) (inner : Span) → Types (Expr-F.Bin p u v inner) (place.word z) → Operates p (value u) (value v) (place.word z)
            operates_of p u v inner (judged.operation k) = k

        arith_p : group_of p ≡ group.Arith
        arith_p = ap group_of c.same ∙ c.arith

        inner_limits : IsKept z u × IsKept z v
        inner_limits =
            let k = two_kept (at_size z) p u v inner m (subst (IsKept z) s limits.0) in
            (k.0, if_false (is_shift p) _ _ _ (no_shift p arith_p) k.1)

        by_carry : carrying_row w ≡ true → P
        by_carry g =
            let q = and_parts (is_rmi (class_of v)) _ g in
            let r = and_parts (not (are_inline (operand_of A d u) (operand_of A d v))) _ q.1 in
            let i = (and_parts (is_rmi (class_of u)) _ (and_parts (is_rm (dest_of d)) _ r.1).1).0 in
            let O = operand_there home z (place.word z) u of_size xu (first_by p (value u) (value v) (place.word z) z refl inner_type) i in
            let f = O.fits None inner_limits.0 in
            subst (λ w. RowFound home z d (expr.Bin o w b at)) (sym s)
            (subst (λ w. RowFound home z d (expr.Bin o (expr.Bin w u v inner) b at)) (sym c.same)
            (carried_row u v O.arg' O.leaks O.is (operand_of A d u) (beside_operand frame home homing z d D rd fd u O f) o b inner at (class_of E) c.is (flag_variable home b y k) xv
            (λ j. second_by p (value u) v (place.word z) z refl arith_p j inner_type) inner_limits.1 g))

    -- where the first operand is no operation there is no such row
    flag_alone : (w : Layer) → out-Expr a ≡ w → (carry_layer (whichever A) d o w ≡ values.Alone) → Matches (S (class_of E) (carry_layer (whichever A) d o (out-Expr a))) → P
    flag_alone w s e h = absurd (no_alone (subst (λ v. Matches (S (class_of E) v)) (ap (carry_layer (whichever A) d o) s ∙ e) h))

    flagged_row : is_flag (class_of b) ≡ true → Matches (S (class_of E) (carry_layer (whichever A) d o (out-Expr a))) → P
    flagged_row k h = by_form a x refl
      where
        by_form : (w : Expr) → IsExpanded home w → a ≡ w → P
        by_form w (a_number i there) s = flag_alone (Expr-F.Num i there) (ap out-Expr s ∙ out_num i there) refl h
        by_form w (a_truth c there) s = flag_alone (Expr-F.Expr::Bool c there) (ap out-Expr s ∙ out_bool c there) refl h
        by_form w (a_variable v q) s = flag_alone (Expr-F.Var v) (ap out-Expr s ∙ out_var v) refl h
        by_form w (a_cell v i q r) s = flag_alone (Expr-F.Cell v i) (ap out-Expr s ∙ out_cell v i) refl h
        by_form w (a_load c q) s = flag_alone (Expr-F.Load c) (ap out-Expr s ∙ out_load c) refl h
        by_form w (a_minus c there m q) s = flag_alone (Expr-F.Neg c there) (ap out-Expr s ∙ out_neg c there) refl h
        by_form w (a_denial c there m q) s = flag_alone (Expr-F.Not c there) (ap out-Expr s ∙ out_not c there) refl h
        by_form w (a_cast y' g c there q) s = flag_alone (Expr-F.Cast y' g c there) (ap out-Expr s ∙ out_cast y' g c there) refl h
        by_form w (of_two p u v inner m q r) s =
            flagged_by p u v inner s m q r k (carries o p) refl
            (subst (λ w. Matches (S (class_of E) (carry_layer (whichever A) d o w))) (ap out-Expr s ∙ out_bin p u v inner) h)

    bin_row : (left_size d ≡ Some z) ⊎ Says (value E) z → divides o ≡ false → (c : Bool) → is_flag (class_of b) ≡ c
        → Matches (S (class_of E) (if c then carry_layer (whichever A) d o (out-Expr a) else two_beside (whichever A) d o a b)) → P
    bin_row s q true k h = flagged_row k h
    bin_row s q false k h = operation_row s q h

  -- ---- `d = e`
  pub operates_at : (o : BinOp) (a b : Expr) (at : Span) → Types (Expr-F.Bin o a b at) (place.word z) → Operates o (value a) (value b) (place.word z)
  operates_at o a b at (judged.operation k) = k

  pub value_row : (e : Expr) → IsExpanded home e → HasType (value e) (place.word z) → IsWithin e → (left_size d ≡ Some z) ⊎ Says (value e) z → divides_layer (out-Expr e) ≡ false
      → Matches (S (class_of e) (value_layer (whichever A) d (out-Expr e))) → RowFound home z d e
  value_row e (a_number i at) t l s q h = alone_row (expr.Num i at) (a_number i at) t l (at_form (expr.Num i at) (Expr-F.Num i at) (out_num i at) h)
  value_row e (a_truth b at) t l s q h = alone_row (expr.Bool b at) (a_truth b at) t l (at_form (expr.Bool b at) (Expr-F.Expr::Bool b at) (out_bool b at) h)
  value_row e (a_variable v x) t l s q h = alone_row (expr.Var v) (a_variable v x) t l (at_form (expr.Var v) (Expr-F.Var v) (out_var v) h)
  value_row e (a_cell v i x y) t l s q h = alone_row (expr.Cell v i) (a_cell v i x y) t l (at_form (expr.Cell v i) (Expr-F.Cell v i) (out_cell v i) h)
  value_row e (a_load a x) t l s q h = alone_row (expr.Load a) (a_load a x) t l (at_form (expr.Load a) (Expr-F.Load a) (out_load a) h)
  value_row e (a_minus a at n x) t l s q h =
      let w = expr.Neg a at in
      let P : Type 0 = RowFound home z d w in
      let v : Value = values.One (operand_of A d a) in
      either P (copy_row (S (class_of w) v)) (unary_row (S (class_of w) v) || false) (move_row w v (a_minus a at n x) t l)
      (either P (unary_row (S (class_of w) v)) false
      (minus_row a at n x (negated_type a at (typed_as w (Expr-F.Neg a at) (place.word z) (out_neg a at) t)) (within_kept w (minus_inline a at ∙ n) l)) (none_more P))
      (at_form w (Expr-F.Neg a at) (out_neg a at) h)
  value_row e (a_denial a at n x) t l s q h =
      let w = expr.Not a at in
      let P : Type 0 = RowFound home z d w in
      let v : Value = values.One (operand_of A d a) in
      either P (copy_row (S (class_of w) v)) (unary_row (S (class_of w) v) || false) (move_row w v (a_denial a at n x) t l)
      (either P (unary_row (S (class_of w) v)) false
      (denial_row a at n x (inverted_type a at (typed_as w (Expr-F.Not a at) (place.word z) (out_not a at) t)) (within_kept w (denial_inline a at ∙ n) l)) (none_more P))
      (at_form w (Expr-F.Not a at) (out_not a at) h)
  value_row e (a_cast y g a at x) t l s q h =
      let w = expr.Cast y g a at in
      let c = cast_typed y g a at (typed_as w (Expr-F.Cast y g a at) (place.word z) (out_cast y g a at) t) in
      cast_rows y g a at x c (within_kept w (cast_inline y g a at) l) (move_row w (values.Cast y g (class_of a)) (a_cast y g a at x) t l)
      (at_form w (Expr-F.Cast y g a at) (out_cast y g a at) h)
  value_row e (of_two o a b at n x y) t l s q h =
      let w = expr.Bin o a b at in
      bin_row o a b at n x y (operates_at o a b at (typed_as w (Expr-F.Bin o a b at) (place.word z) (out_bin o a b at) t)) (within_kept w (two_inline o a b at ∙ n) l) s
      (sym (ap divides_layer (out_bin o a b at)) ∙ q) (is_flag (class_of b)) refl (at_form w (Expr-F.Bin o a b at) (out_bin o a b at) h)

  -- ---- `d op= e`
  module _ (o : BinOp) (e r : Expr) (er : as_expr d ≡ Some r) (x : IsExpanded home e) (t : Operates o (left d) (value e) (place.word z))
      (l : (if is_shift o then count_field (Some z) (seen (at_size z) e) else (seen (at_size z) e).operand) ≡ None) (s : is_shift o ≡ true → left_size d ≡ Some z) (q : divides o ≡ false) where
    abbrev pub here : Span
    here = left_span d

    pub no_other : (v : Value) → copy_row (S class.Other v) ≡ true → ⊥
    no_other v h = false≢true (and_parts (is_rm (dest_of d)) false h).1

    pub read : IsArg home z r D.arg' D.leaks
    read = left_read home z d D.arg' D.leaks r D.is er

    plain_update : Matches (S class.Other (values.Two o (itself d) (operand_of A d e))) → RowFound home z d (expr.Bin o r e here)
    plain_update h =
        two_row frame home homing z d D rd fd r e o here D.arg' D.leaks read (itself d) (beside_itself frame home homing z d D rd fd) x
        (λ i j. rm_not_i (dest_of d) rd i) class.Other (λ g i. second_by o (left d) e (place.word z) z refl g i t) l
        (λ i. ap (λ k. option_or k (class_size (dest_of d))) (D.class_own (s i)))
        (λ i. absurd (no_other (values.Two o (itself d) (operand_of A d e)) i)) (λ i. false≢true (sym q ∙ (and_parts (divides o) _ i).0)) h

    update_form : (w : Layer) → out-Expr e ≡ w → update_layer (whichever A) d o e w ≡ values.Two o (itself d) (operand_of A d e) → updated_layer o r e here w ≡ expr.Bin o r e here
        → Matches (S class.Other (update_layer (whichever A) d o e (out-Expr e))) → RowFound home z d (updated_layer o r e here (out-Expr e))
    update_form w k u v h =
        subst (RowFound home z d) (sym (ap (updated_layer o r e here) k ∙ v))
        (plain_update (subst (λ v. Matches (S class.Other v)) (ap (update_layer (whichever A) d o e) k ∙ u) h))

    not_shift : group.Shift ≡ group.Arith → ⊥
    not_shift e = absurd cc

    whole_type : (p : BinOp) (a c : Expr) (inner : Span) → e ≡ expr.Bin p a c inner → place.IsSum p → group_of o ≡ group.Arith → Operates o (left d) (value e) (place.word z) → Operates p (value a) (value c) (place.word z)
    whole_type p a c inner k u g (judged.arithmetic g' n m x' y') = operates_at p a c inner (typed_as (expr.Bin p a c inner) (Expr-F.Bin p a c inner) (place.word z) (out_bin p a c inner) (subst (λ w. HasType (value w) (place.word z)) k y'))
    whole_type p a c inner k u g (judged.carry n m x' y') =
        absurd (sum_typed p a c place.truth u (truth_of (typed_as (expr.Bin p a c inner) (Expr-F.Bin p a c inner) place.truth (out_bin p a c inner) (subst (λ w. HasType (value w) place.truth) k y'))) tt)
      where
        truth_of : Types (Expr-F.Bin p a c inner) place.truth → Operates p (value a) (value c) place.truth
        truth_of (judged.operation k) = k
    whole_type p a c inner k u g (judged.shift g' n m x' y') = absurd (not_shift (sym g' ∙ g))

    carried_update : (p : BinOp) (a c : Expr) (inner : Span) → e ≡ expr.Bin p a c inner → (is_inline a && is_inline c) ≡ false → IsExpanded home a → IsExpanded home c → carries o p ≡ true → is_flag (class_of c) ≡ true
        → Matches (S class.Other (values.Carry o (itself d) (operand_of A d a))) → RowFound home z d (expr.Bin p (expr.Bin o r a here) c here)
    carried_update p a c inner k m xa xc f g h =
        let j = are_carries o p f in
        let w : rowed.Shape = S class.Other (values.Carry o (itself d) (operand_of A d a)) in
        let P : Type 0 = RowFound home z d (expr.Bin p (expr.Bin o r a here) c here) in
        let u = whole_type p a c inner k j.sum j.arith t in
        let n = (two_kept (at_size z) p a c inner m (subst (IsKept z) k (if_false (is_shift o) _ _ _ (no_shift o j.arith) l))).0 in
        either P (copy_row w) (carrying_row w || false) (λ i. absurd (no_other (values.Carry o (itself d) (operand_of A d a)) i))
        (either P (carrying_row w) false
        (λ i.
        subst (λ w. RowFound home z d (expr.Bin w (expr.Bin o r a here) c here)) (sym j.same)
        (carried_row r a D.arg' D.leaks read (itself d) (beside_itself frame home homing z d D rd fd) o c here here class.Other j.is (flag_variable home c xc g) xa
        (λ i. first_by p (value a) (value c) (place.word z) z refl u) n i))
        (none_more P)) h

    by_test : (p : BinOp) (a c : Expr) (inner : Span) → e ≡ expr.Bin p a c inner → (is_inline a && is_inline c) ≡ false → IsExpanded home a → IsExpanded home c → (b : Bool) → (carries o p && is_flag (class_of c)) ≡ b
        → Matches (S class.Other (if b then values.Carry o (itself d) (operand_of A d a) else values.Two o (itself d) (operand_of A d e))) → RowFound home z d (if b then expr.Bin p (expr.Bin o r a here) c here else expr.Bin o r e here)
    by_test p a c inner k m xa xc true f h = let j = and_parts (carries o p) (is_flag (class_of c)) f in carried_update p a c inner k m xa xc j.0 j.1 h
    by_test p a c inner k m xa xc false f h = plain_update h

    pub update_row : Matches (S class.Other (update_layer (whichever A) d o e (out-Expr e))) → RowFound home z d (updated_layer o r e here (out-Expr e))
    update_row h = by_form e x refl
      where
        by_form : (w : Expr) → IsExpanded home w → e ≡ w → RowFound home z d (updated_layer o r e here (out-Expr e))
        by_form w (a_number i there) k = update_form (Expr-F.Num i there) (ap out-Expr k ∙ out_num i there) refl refl h
        by_form w (a_truth c there) k = update_form (Expr-F.Expr::Bool c there) (ap out-Expr k ∙ out_bool c there) refl refl h
        by_form w (a_variable v y) k = update_form (Expr-F.Var v) (ap out-Expr k ∙ out_var v) refl refl h
        by_form w (a_cell v i y n) k = update_form (Expr-F.Cell v i) (ap out-Expr k ∙ out_cell v i) refl refl h
        by_form w (a_load c y) k = update_form (Expr-F.Load c) (ap out-Expr k ∙ out_load c) refl refl h
        by_form w (a_minus c there m y) k = update_form (Expr-F.Neg c there) (ap out-Expr k ∙ out_neg c there) refl refl h
        by_form w (a_denial c there m y) k = update_form (Expr-F.Not c there) (ap out-Expr k ∙ out_not c there) refl refl h
        by_form w (a_cast y g c there n) k = update_form (Expr-F.Cast y g c there) (ap out-Expr k ∙ out_cast y g c there) refl refl h
        by_form w (of_two p a c inner m xa xc) k =
            let j = ap out-Expr k ∙ out_bin p a c inner in
            subst (RowFound home z d) (sym (ap (updated_layer o r e here) j ∙ ap (λ b. if carries o p && b then expr.Bin p (expr.Bin o r a here) c here else expr.Bin o r e here) (flags_same home c xc)))
            (by_test p a c inner k m xa xc (carries o p && is_flag (class_of c)) refl (subst (λ v. Matches (S class.Other (update_layer (whichever A) d o e v))) j h))
