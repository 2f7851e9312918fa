-- The row of a typed assignment that the expansion leaves, by the form of its right side.
use Rattle.std.proofs.Common.{◌≡◌, ℕ, Bool, true, false, not, ◌&&◌, ◌||◌, Some, None, refl, sym, ap, ◌∙◌, subst, inl, inr, if◌then◌else◌, ℤ, pos}
use Rattle.std.specs.Prelude.{◌⊎◌}
use Rattle.std.specs.Option.{option_or}
use Rattle.std.proofs.lemmas.Bool.{false≢true, true≢false, and_parts}
use Rattle.jz_words.specs.declared.size.Size.{Size}
use Rattle.jz_words.specs.declared.size.Size.TheVariants.{S8, S16, S32, S64}
use Rattle.jz_words.specs.Readings.{reading_of, fits_bytes}
use Rattle.x64_insn.specs.Table.{immediate_by}
use Rattle.jz_tree.specs.Span.{Span}
use Rattle.jz_tree.specs.Operators.{carries, is_shift}
use Rattle.jz_tree.specs.declared.expr.BinOp.{BinOp}
use Rattle.jz_tree.specs.declared.expr.BinOp.TheVariants as op
use Rattle.jz_tree.specs.declared.expr.Expr.{Expr}
use Rattle.jz_tree.specs.declared.expr.Expr.TheVariants as expr
use Rattle.jz_tree.specs.declared.expr.Var.{Var}
use Rattle.jz_tree.specs.declared.stmt.Lval.{Lval}
use Rattle.jz_type_names.specs.Kinds.{is_inline}
use Rattle.jz_type_sizes.specs.declared.operators.Group.TheVariants as group
use Rattle.jz_type_sizes.specs.Operators.{group_of}
use Rattle.jz_select.specs.declared.class.Class.{Class}
use Rattle.jz_select.specs.declared.class.Class.TheVariants as class
use Rattle.jz_select.specs.declared.class.Operand.{Operand}
use Rattle.jz_select.specs.declared.shape.Value.{Value}
use Rattle.jz_select.specs.declared.shape.Value.TheVariants as values
use Rattle.jz_select.specs.declared.shape.Shape as rowed
use Rattle.jz_select.specs.declared.shape.Shape.TheVariants as shapes
use Rattle.jz_select.specs.Places.{meeting_of}
use Rattle.jz_select.specs.Operands.{class_of, dest_of, operand_of}
use Rattle.jz_select.specs.Rows.{is_r, is_m, is_i, is_rm, is_rmi, is_same_place, is_apart_from, class_size, is_wide, adds, joins_bits, multiplies, are_inline, computes, changes, masks, is_longest, copy_row, arithmetic_row, times_row, times_inline_row, quotient_row, inline_shift_row, masked_shift_row}
use Rattle.jz_select.specs.Shapes.{itself}
use Rattle.jz_judgement.specs.Places as place
use Rattle.jz_judgement.specs.HasType as judged
use Rattle.jz_judgement.specs.HasType.{value, HasType, Operates}
use Rattle.jz_row_laws.proofs.Booleans.{or_parts, or_left}
use Rattle.jz_row_laws.proofs.Copied.{Matches}
use Rattle.jz_stuck_runs.proofs.Classes.{rmi_no_truth}
use Rattle.jz_meaning.specs.Values.{key_of, ref_of}
use Rattle.jz_limits.specs.declared.looked.Asking.{Asking}
use Rattle.jz_limits.specs.InnerLooked.{count_field}
use Rattle.jz_operations.specs.declared.operation.Address.{Address}
use Rattle.jz_operations.specs.declared.operation.Cell.{Cell}
use Rattle.jz_operations.specs.declared.operation.Arg.{Arg}
use Rattle.jz_operations.specs.declared.operation.Arg.TheVariants as arg
use Rattle.jz_operations.specs.Rows.{Frame}
use Rattle.jz_homes.specs.Homes.{Homes, IsHoming, in_register}
use Rattle.jz_homes.specs.Operands as operands
use Rattle.jz_homes.specs.Operands.{Leaks, silent, IsArg, IsDest, to_word, to_scalar, to_cell, to_memory}
use Rattle.jz_row_operations.specs.Rows.{IsWide, IsCarryOp, IsShiftOp, mask_of}
use Rattle.jz_row_operations.specs.Table.{is_free, is_imm}
use Rattle.jz_total_rows.specs.Expanded.{IsExpanded}
use Rattle.jz_total_rows.proofs.InlineValues.{number_is_inline}
use Rattle.jz_total_rows.proofs.Summed.{seen}
use Rattle.jz_total_rows.proofs.Fits.{Fits}
use Rattle.jz_total_rows.proofs.Stands as stands
use Rattle.jz_total_rows.proofs.Stands.{stands_i}
use Rattle.jz_total_rows.proofs.Meets.{A, dest_itself, same_place, apart_place, masked_apart, operation_not_same}
use Rattle.jz_total_rows.proofs.Bringing.{Beside}
use Rattle.jz_total_rows.proofs.Operands.{of_size, OperandAs, number_fits, operand_there, LeftAs}
use Rattle.jz_total_rows.proofs.Classes.{class_number, mask_number, masked_byte}
use Rattle.jz_total_rows.proofs.KeptLimits.{count_kept}
use Rattle.jz_total_rows.proofs.Rows.{sum_operator, wide_of, RowFound, sum_found, times_found, times_by_found, shift_found, shift_by_found}

-- ---- one of the rows
pub none_more : (P : Type 0) → false ≡ true → P
none_more P e = absurd (false≢true e)

pub either : (P : Type 0) (row rest : Bool) → (row ≡ true → P) → (rest ≡ true → P) → (row || rest) ≡ true → P
either P row rest f g h = by_part (or_parts row rest h)
  where
    by_part : (row ≡ true) ⊎ (rest ≡ true) → P
    by_part (inl t) = f t
    by_part (inr t) = g t

-- ---- types of operands
truth_word : (z : Size) → place.truth ≡ place.word z → ⊥
truth_word z e = absurd cc

pub first_by : (o : BinOp) (a b : judged.Term) (p : place.Place) (z : Size) → p ≡ place.word z → Operates o a b p → HasType a (place.word z)
first_by o a b p z e (judged.arithmetic g k m x y) = subst (HasType a) e x
first_by o a b p z e (judged.carry s k x y) = subst (HasType a) e x
first_by o a b p z e (judged.shift g k m x y) = subst (HasType a) e x
first_by o a b p z e (judged.integers g m x y) = absurd (truth_word z e)
first_by o a b p z e (judged.words y g m x w) = absurd (truth_word z e)
first_by o a b p z e (judged.logic g x y) = absurd (truth_word z e)

shift_not : group.Shift ≡ group.Arith → ⊥
shift_not e = absurd cc

pub second_by : (o : BinOp) (a : judged.Term) (b : Expr) (p : place.Place) (z : Size) → p ≡ place.word z → group_of o ≡ group.Arith → is_rmi (class_of b) ≡ true → Operates o a (value b) p → HasType (value b) (place.word z)
second_by o a b p z e k h (judged.arithmetic g n m x y) = subst (HasType (value b)) e y
second_by o a b p z e k h (judged.carry s n x y) = absurd (rmi_no_truth b h y)
second_by o a b p z e k h (judged.shift g n m x y) = absurd (shift_not (sym g ∙ k))
second_by o a b p z e k h (judged.integers g m x y) = absurd (truth_word z e)
second_by o a b p z e k h (judged.words y g m x w) = absurd (truth_word z e)
second_by o a b p z e k h (judged.logic g x y) = absurd (truth_word z e)

-- ---- operators
pub sum_group : (o : BinOp) → (adds o || (joins_bits o && true)) ≡ true → group_of o ≡ group.Arith
sum_group op.Add h = refl
sum_group op.Sub h = refl
sum_group op.And h = refl
sum_group op.Or h = refl
sum_group op.Xor h = refl
sum_group o h = absurd (false≢true h)

times_is : (o : BinOp) → multiplies o ≡ true → o ≡ op.Mul
times_is op.Mul h = refl
times_is o h = absurd (false≢true h)

shift_operator : (o : BinOp) → is_shift o ≡ true → IsShiftOp o
shift_operator op.Shl h = tt
shift_operator op.Shr h = tt
shift_operator op.Sar h = tt
shift_operator op.Rol h = tt
shift_operator op.Ror h = tt
shift_operator o h = absurd (false≢true h)

pub record AreCarries (o p : BinOp) : Type 0 where
  pub same : p ≡ o
  pub is : IsCarryOp o
  pub arith : group_of o ≡ group.Arith
  pub sum : place.IsSum p

pub are_carries : (o p : BinOp) → carries o p ≡ true → AreCarries o p
are_carries op.Add op.Add h = record { same = refl; is = tt; arith = refl; sum = tt }
are_carries op.Sub op.Sub h = record { same = refl; is = tt; arith = refl; sum = tt }
are_carries o p h = absurd (false≢true h)

pub no_shift : (o : BinOp) → group_of o ≡ group.Arith → is_shift o ≡ false
no_shift op.Shl h = absurd (shift_not h)
no_shift op.Shr h = absurd (shift_not h)
no_shift op.Sar h = absurd (shift_not h)
no_shift op.Rol h = absurd (shift_not h)
no_shift op.Ror h = absurd (shift_not h)
no_shift o h = refl

pub if_false : {B : Type 0} (b : Bool) (x y w : B) → b ≡ false → (if b then x else y) ≡ w → y ≡ w
if_false true x y w e h = absurd (true≢false e)
if_false false x y w e h = h

pub if_true : {B : Type 0} (b : Bool) (x y w : B) → b ≡ true → (if b then x else y) ≡ w → x ≡ w
if_true true x y w e h = h
if_true false x y w e h = absurd (false≢true e)

abbrev pub at_size : Size → Asking
at_size z = record { place = None; size = Some z }

abbrev pub IsKept : Size → Expr → Type 0
IsKept z e = (seen (at_size z) e).operand ≡ None

same_var : (m n : ℕ) → arg.Var m ≡ arg.Var n → m ≡ n
same_var m n e = cc

cell_not : (c : Cell) (n : ℕ) → arg.Cell c ≡ arg.Var n → ⊥
cell_not c n e = absurd cc

memory_not : (m : Address) (n : ℕ) → arg.Mem m ≡ arg.Var n → ⊥
memory_not m n e = absurd cc

module _ (frame : Frame) (home : Homes) (homing : IsHoming frame home) (z : Size) (d : Lval) (D : LeftAs home z d) (rd : is_rm (dest_of d) ≡ true) (fd : Fits z D.arg') where
  -- ---- beside the destination
  free_of : (b : Arg) (r : Leaks) (e : Expr) (x : Arg) (p : Leaks) → IsDest home z d b r → IsArg home z e x p → (n : ℕ) → b ≡ arg.Var n → is_apart_from (meeting_of A d e) ≡ true → is_free b x ≡ true
  free_of b r e x p t i n h k = by_dest d b r t h k
    where
      by_dest : (d : Lval) (b : Arg) (r : Leaks) → IsDest home z d b r → b ≡ arg.Var n → is_apart_from (meeting_of A d e) ≡ true → is_free b x ≡ true
      by_dest d b r (to_word v m c g) h k = apart_place frame home homing v m z g z e x p i k
      by_dest d b r (to_scalar v w c g) h k = absurd (cell_not _ n h)
      by_dest d b r (to_cell v j m w t c o cells s q) h k = absurd (cell_not _ n h)
      by_dest d b r (to_memory a t m c s q) h k = absurd (memory_not _ n h)

  pub beside_operand : (e : Expr) (O : OperandAs home z e) → Fits z O.arg' → Beside z D.arg' O.arg' (operand_of A d e)
  beside_operand e O f =
      record {
        stands = O.stands;
        same = same_place home z d e D.arg' O.arg' D.leaks O.leaks D.is O.is;
        apart = free_of D.arg' D.leaks e O.arg' O.leaks D.is O.is;
        fits = f;
      }

  pub beside_itself : Beside z D.arg' D.arg' (itself d)
  beside_itself =
      record {
        stands = D.stands;
        same = λ h. dest_itself home z d D.arg' D.leaks D.is;
        apart = λ n h k. absurd (false≢true k);
        fits = fd;
      }

  wide : is_wide (class_size (dest_of d)) ≡ true → IsWide z
  wide h = wide_of (class_size (dest_of d)) z D.sized h

  -- ---- two operands, where the first stands beside the destination
  module _ (a b : Expr) (o : BinOp) (at : Span) (x : Arg) (p : Leaks) (i : IsArg home z a x p) (oa : Operand) (m : Beside z D.arg' x oa) (y : IsExpanded home b)
      (n : is_i oa.class ≡ true → is_inline b ≡ true → ⊥) where
    abbrev ob : Operand
    ob = operand_of A d b

    abbrev S : Class → Value → rowed.Shape
    S c v = shapes.Assign None (dest_of d) c v

    operand_b : group_of o ≡ group.Arith → is_rmi (class_of b) ≡ true → (group_of o ≡ group.Arith → is_rmi (class_of b) ≡ true → HasType (value b) (place.word z)) → OperandAs home z b
    operand_b g h t = operand_there home z (place.word z) b of_size y (t g h) h

    abbrev Typed : Type 0
    Typed = group_of o ≡ group.Arith → is_rmi (class_of b) ≡ true → HasType (value b) (place.word z)

    abbrev LimitB : Type 0
    LimitB = (if is_shift o then count_field (Some z) (seen (at_size z) b) else (seen (at_size z) b).operand) ≡ None

    by_sum : (c : Class) → Typed → LimitB → arithmetic_row (S c (values.Two o oa ob)) ≡ true → RowFound home z d (expr.Bin o a b at)
    by_sum c t l h =
        let k = and_parts (adds o || (joins_bits o && true)) _ h in
        let q = and_parts (is_rmi ob.class) _ k.1 in
        let r = and_parts (not (are_inline oa ob)) _ q.1 in
        let g = sum_group o k.0 in
        let B = operand_b g q.0 t in
        let f = B.fits None (if_false (is_shift o) _ _ _ (no_shift o g) l) in
        sum_found home z d D.arg' D.leaks D.is (dest_of d) D.stands fd a b x B.arg' p B.leaks i B.is oa ob m (beside_operand b B f) o at (sum_operator o k.0) r.0 r.1

    by_times : (c : Class) → Typed → LimitB → times_row (S c (values.Two o oa ob)) ≡ true → RowFound home z d (expr.Bin o a b at)
    by_times c t l h =
        let k = and_parts (multiplies o) _ h in
        let q = and_parts (is_r (dest_of d)) _ k.1 in
        let r = and_parts (is_wide (class_size (dest_of d))) _ q.1 in
        let u = and_parts (is_rm ob.class) _ r.1 in
        let e = times_is o k.0 in
        let g : group_of o ≡ group.Arith = ap group_of e in
        let B = operand_b g (or_left (is_rm ob.class) (is_i ob.class) u.0) t in
        let f = B.fits None (if_false (is_shift o) _ _ _ (no_shift o g) l) in
        subst (λ o. RowFound home z d (expr.Bin o a b at)) (sym e)
        (times_found home z d D.arg' D.leaks D.is (dest_of d) D.stands fd a b x B.arg' p B.leaks i B.is oa ob m (beside_operand b B f) at (wide r.0) q.0 u.0 u.1)

    by_times_inline : (c : Class) → LimitB → times_inline_row (S c (values.Two o oa ob)) ≡ true → RowFound home z d (expr.Bin o a b at)
    by_times_inline c l h =
        let k = and_parts (multiplies o) _ h in
        let q = and_parts (is_r (dest_of d)) _ k.1 in
        let r = and_parts (is_wide (class_size (dest_of d))) _ q.1 in
        let u = and_parts (is_rm oa.class) (is_i ob.class) r.1 in
        let e = times_is o k.0 in
        let g : group_of o ≡ group.Arith = ap group_of e in
        let j = class_number home b y u.1 in
        let f = number_fit j.0 j.1 j.2 (if_false (is_shift o) _ _ _ (no_shift o g) l) in
        subst (λ o. RowFound home z d (expr.Bin o a b at)) (sym e)
        (times_by_found home z d D.arg' D.leaks D.is (dest_of d) D.stands fd a x p i oa m b (reading_of z j.0) at (wide r.0) q.0 u.0
        (subst (λ v. IsArg home z v (arg.Imm (reading_of z j.0)) silent) (sym j.2) (operands.a_number j.0 j.1)) f)
      where
        number_fit : (k : ℤ) (there : Span) → b ≡ expr.Num k there → (seen (at_size z) b).operand ≡ None → fits_bytes (immediate_by z) (reading_of z k) ≡ true
        number_fit k there e l = number_fits z k there (sym (ap (λ v. (seen (at_size z) v).operand) e) ∙ l)

    first_not_imm : is_inline b ≡ true → is_imm x ≡ false
    first_not_imm h = by_test (is_imm x) refl
      where
        by_test : (t : Bool) → is_imm x ≡ t → t ≡ false
        by_test true e = absurd (n (stands_i m.stands ∙ e) h)
        by_test false e = refl

    by_shift : (c : Class) → LimitB → inline_shift_row (S c (values.Two o oa ob)) ≡ true → RowFound home z d (expr.Bin o a b at)
    by_shift c l h =
        let k = and_parts (is_shift o) _ h in
        let q = and_parts (is_i ob.class) (changes (dest_of d) oa) k.1 in
        let j = class_number home b y q.0 in
        let t = count_kept (at_size z) z b j.0 j.1 j.2 (if_true (is_shift o) _ _ _ k.0 l) in
        subst (λ v. RowFound home z d (expr.Bin o a v at)) (sym (j.2 ∙ ap (λ n. expr.Num n j.1) t.is))
        (shift_found home z d D.arg' D.leaks D.is (dest_of d) D.stands fd a x p i oa m o t.count j.1 at (shift_operator o k.0) t.small (first_not_imm (number_is_inline b j)) q.1)

    -- a masked count meets the destination as its variable does
    abbrev Sized : Type 0
    Sized = is_shift o ≡ true → option_or (class_size (dest_of d)) (class_size oa.class) ≡ Some z

    mask_is : (z : Size) → mask_number (is_longest (Some z)) ≡ mask_of z
    mask_is S8 = refl
    mask_is S16 = refl
    mask_is S32 = refl
    mask_is S64 = refl

    masked_no_memory : (l : Bool) (c : Class) → masks l c ≡ true → is_m c ≡ false
    masked_no_memory l (class.Masked k) h = refl
    masked_no_memory l (class.Reg y) h = absurd (false≢true h)
    masked_no_memory l (class.Mem y) h = absurd (false≢true h)
    masked_no_memory l class.Inline h = absurd (false≢true h)
    masked_no_memory l class.Flag h = absurd (false≢true h)
    masked_no_memory l class.Skip h = absurd (false≢true h)
    masked_no_memory l class.Other h = absurd (false≢true h)

    abbrev computes_by : Bool → Bool
    computes_by k = is_rm (dest_of d) && (is_rmi oa.class &&
        ((is_same_place oa.meeting && not (is_m (dest_of d) && k))
        || ((false && (is_same_place ob.meeting && not (is_m (dest_of d) && is_m oa.class)))
        || (is_r (dest_of d) && is_apart_from ob.meeting))))

    beside_byte : (v : Var) (k : ℕ) (there inner : Span) (c : ℕ) → home (key_of (ref_of v)) ≡ Some (in_register k S8) → b ≡ expr.Bin op.And (expr.Var v) (expr.Num (pos c) there) inner
        → Beside z D.arg' (arg.Var k) (record { class = class.Reg S8; meeting = meeting_of A d b })
    beside_byte v k there inner c h e =
        record {
          stands = stands.in_variable S8 k;
          same = λ g. absurd (operation_not_same d op.And (expr.Var v) (expr.Num (pos c) there) inner (sym (ap (λ w. is_same_place (meeting_of A d w)) e) ∙ g));
          apart = λ n g q. byte_free d D.arg' D.leaks D.is n g (sym (ap (λ w. is_apart_from (meeting_of A d w)) e) ∙ q);
          fits = λ e' l. refl;
        }
      where
        byte_free : (d : Lval) (b' : Arg) (r : Leaks) → IsDest home z d b' r → (n : ℕ) → b' ≡ arg.Var n
            → is_apart_from (meeting_of A d (expr.Bin op.And (expr.Var v) (expr.Num (pos c) there) inner)) ≡ true → is_free b' (arg.Var k) ≡ true
        byte_free d b' r (to_word u m q g) n f s = masked_apart frame home homing u m z g op.And v (expr.Num (pos c) there) inner k S8 h s
        byte_free d b' r (to_scalar u j q g) n f s = absurd (cell_not _ n f)
        byte_free d b' r (to_cell u j m q t i' o' cells s' g) n f s = absurd (cell_not _ n f)
        byte_free d b' r (to_memory a' t m q s' g) n f s = absurd (memory_not _ n f)

    by_masked : (c : Class) → Sized → masked_shift_row (S c (values.Two o oa ob)) ≡ true → RowFound home z d (expr.Bin o a b at)
    by_masked c t h =
        let k = and_parts (is_shift o) _ h in
        let l = is_longest (option_or (class_size (dest_of d)) (class_size oa.class)) in
        let q = and_parts (masks l ob.class) (computes false (dest_of d) oa ob) k.1 in
        let g = masked_byte home l b y q.0 in
        let e = g.is ∙ ap (λ n. expr.Bin op.And (expr.Var g.var) (expr.Num (pos n) g.there) g.inner) (ap (λ s. mask_number (is_longest s)) (t k.0) ∙ mask_is z) in
        let u = sym (ap computes_by (masked_no_memory l ob.class q.0)) ∙ q.1 in
        subst (λ v. RowFound home z d (expr.Bin o a v at)) (sym e)
        (shift_by_found home z d D.arg' D.leaks D.is (dest_of d) D.stands fd a x p i oa m o g.var g.number g.there g.inner at (record { class = class.Reg S8; meeting = meeting_of A d b }) (shift_operator o k.0) g.byte
        (beside_byte g.var g.number g.there g.inner (mask_number l) g.byte g.is) u)

    -- ---- all rows of two operands but that of a quotient
    pub two_row : (c : Class) → Typed → LimitB → Sized → (copy_row (S c (values.Two o oa ob)) ≡ true → RowFound home z d (expr.Bin o a b at)) → (quotient_row (S c (values.Two o oa ob)) ≡ true → ⊥)
        → Matches (S c (values.Two o oa ob)) → RowFound home z d (expr.Bin o a b at)
    two_row c t l u f g h =
        let P : Type 0 = RowFound home z d (expr.Bin o a b at) in
        let v : rowed.Shape = S c (values.Two o oa ob) in
        either P (copy_row v) (arithmetic_row v || (times_row v || (times_inline_row v || (quotient_row v || (inline_shift_row v || (masked_shift_row v || false)))))) f
        (either P (arithmetic_row v) (times_row v || (times_inline_row v || (quotient_row v || (inline_shift_row v || (masked_shift_row v || false))))) (by_sum c t l)
        (either P (times_row v) (times_inline_row v || (quotient_row v || (inline_shift_row v || (masked_shift_row v || false)))) (by_times c t l)
        (either P (times_inline_row v) (quotient_row v || (inline_shift_row v || (masked_shift_row v || false))) (by_times_inline c l)
        (either P (quotient_row v) (inline_shift_row v || (masked_shift_row v || false)) (λ e. absurd (g e))
        (either P (inline_shift_row v) (masked_shift_row v || false) (by_shift c l)
        (either P (masked_shift_row v) false (by_masked c u) (none_more P)))))))
        h
