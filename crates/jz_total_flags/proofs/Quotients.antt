-- Quotients and remainders have operations.
use Rattle.std.proofs.Common.{◌≡◌, ℕ, Bool, true, false, ◌&&◌, Option, Some, None, refl, sym, ap, ◌∙◌, subst, if◌then◌else◌, pos}
use Rattle.std.specs.Prelude.{All, ◌||◌}
use Rattle.std.proofs.lemmas.Bool.{false≢true, and_parts}
use Rattle.jz_words.specs.declared.size.Size.{Size}
use Rattle.jz_words.specs.declared.size.Size.TheVariants.{S8, S16, S32, S64}
use Rattle.x64_insn.specs.declared.types.Reg.TheVariants as reg
use Rattle.x64_insn.specs.declared.types.Wide.{Wide}
use Rattle.x64_insn.specs.declared.types.Wide.TheVariants as wide
use Rattle.jz_tree.specs.Operators.{divides, is_shift}
use Rattle.jz_tree.specs.declared.expr.BinOp.{BinOp}
use Rattle.jz_tree.specs.declared.expr.BinOp.TheVariants as op
use Rattle.jz_tree.specs.declared.expr.Expr.{Expr}
use Rattle.jz_tree.specs.declared.stmt.Lval.{Lval}
use Rattle.jz_type_sizes.specs.declared.operators.Group.TheVariants as group
use Rattle.jz_type_sizes.specs.Operators.{group_of}
use Rattle.jz_select.specs.declared.class.Class.{Class}
use Rattle.jz_select.specs.declared.class.Operand.{Operand}
use Rattle.jz_select.specs.declared.shape.Shape as rowed
use Rattle.jz_select.specs.declared.shape.Shape.TheVariants as shapes
use Rattle.jz_select.specs.declared.shape.Value.TheVariants as values
use Rattle.jz_select.specs.Operands.{class_of, dest_of, operand_of}
use Rattle.jz_select.specs.Rows.{is_r, is_i, is_rm, is_rmi, is_long, class_size, is_apart as stands_apart, is_quotient as has_quotient, adds, joins_bits, multiplies, copy_row, arithmetic_row, times_row, times_inline_row, quotient_row, inline_shift_row, masked_shift_row}
use Rattle.jz_judgement.specs.Places as place
use Rattle.jz_judgement.specs.HasType.{value, HasType}
use Rattle.jz_row_laws.proofs.Booleans.{or_left}
use Rattle.jz_row_laws.proofs.Copied.{Matches}
use Rattle.jz_meaning.specs.Values.{ref_of}
use Rattle.jz_operations.specs.declared.operation.Pinned.{Pinned}
use Rattle.jz_operations.specs.declared.operation.Arg.{Arg}
use Rattle.jz_operations.specs.declared.operation.Arg.TheVariants as arg
use Rattle.jz_operations.specs.declared.operation.Action.TheVariants as action
use Rattle.jz_operations.specs.Rows.{Frame, low_at, high_at}
use Rattle.jz_encodable.specs.Encodable.{CanEncode}
use Rattle.jz_homes.specs.Homes.{Homes, IsHoming}
use Rattle.jz_homes.specs.Operands.{Leaks, IsArg}
use Rattle.jz_row_operations.specs.Rows.{NotImm}
use Rattle.jz_row_operations.specs.Table.{is_free}
use Rattle.jz_flag_rows.specs.Results.{IsPinned, a_word}
use Rattle.jz_flag_rows.specs.Wide.{IsLong, divider, is_apart, is_quotient, quotient_code}
use Rattle.jz_flag_rows.proofs.Codes.{divide_all}
use Rattle.jz_total_rows.specs.Expanded.{IsExpanded}
use Rattle.jz_total_rows.proofs.Fits.{fit_at, is_place, Fits}
use Rattle.jz_total_rows.proofs.Stands.{is_variable, stands_place, variable_of}
use Rattle.jz_total_rows.proofs.Meets.{A}
use Rattle.jz_total_rows.proofs.Bringing.{encode}
use Rattle.jz_total_rows.proofs.Operands.{of_size, operand_there, LeftAs}
use Rattle.jz_total_rows.proofs.Rows.{not_imm, place_not_imm}
use Rattle.jz_total_rows.proofs.Assigned.{none_more, either, IsKept, beside_operand}
use Rattle.jz_total_rows.proofs.Whole.{register_of}
use Rattle.jz_total_flags.proofs.Spelled.{to_register_spelled, wide_spelled, sign_spelled}

-- ---- operators
pub divides_arith : (o : BinOp) → divides o ≡ true → group_of o ≡ group.Arith
divides_arith op.Div h = refl
divides_arith op.Rem h = refl
divides_arith op.DivS h = refl
divides_arith op.RemS h = refl
divides_arith o h = absurd (false≢true h)

divides_no_sum : (o : BinOp) → divides o ≡ true → (adds o || (joins_bits o && true)) ≡ false
divides_no_sum op.Div h = refl
divides_no_sum op.Rem h = refl
divides_no_sum op.DivS h = refl
divides_no_sum op.RemS h = refl
divides_no_sum o h = absurd (false≢true h)

divides_no_product : (o : BinOp) → divides o ≡ true → multiplies o ≡ false
divides_no_product op.Div h = refl
divides_no_product op.Rem h = refl
divides_no_product op.DivS h = refl
divides_no_product op.RemS h = refl
divides_no_product o h = absurd (false≢true h)

pub divides_no_shift : (o : BinOp) → divides o ≡ true → is_shift o ≡ false
divides_no_shift op.Div h = refl
divides_no_shift op.Rem h = refl
divides_no_shift op.DivS h = refl
divides_no_shift op.RemS h = refl
divides_no_shift o h = absurd (false≢true h)

divider_of : (o : BinOp) → divides o ≡ true → (w : Wide) × (divider o ≡ Some w)
divider_of op.Div h = (wide.Div, refl)
divider_of op.Rem h = (wide.Div, refl)
divider_of op.DivS h = (wide.Idiv, refl)
divider_of op.RemS h = (wide.Idiv, refl)
divider_of o h = absurd (false≢true h)

pub long_of : (o : Option Size) (z : Size) → ((y : Size) → o ≡ Some y → y ≡ z) → is_long o ≡ true → IsLong z
long_of None z f h = absurd (false≢true h)
long_of (Some y) z f h = subst IsLong (f y refl) (by_size y h)
  where
    by_size : (y : Size) → is_long (Some y) ≡ true → IsLong y
    by_size S8 h = absurd (false≢true h)
    by_size S16 h = absurd (false≢true h)
    by_size S32 h = tt
    by_size S64 h = tt

-- of the rows of two operands it is the one of quotients
pub quotient_only : (d c : Class) (o : BinOp) (a b : Operand) → divides o ≡ true → (copy_row (shapes.Assign None d c (values.Two o a b)) ≡ true → ⊥) → Matches (shapes.Assign None d c (values.Two o a b)) → has_quotient d a b ≡ true
quotient_only d c o a b v none h =
    let Q : Type 0 = has_quotient d a b ≡ true in
    let w : rowed.Shape = shapes.Assign None d c (values.Two o a b) in
    let no : (x : Bool) → x ≡ false → x ≡ true → Q = λ x e f. absurd (false≢true (sym e ∙ f)) in
    either Q (copy_row w) (arithmetic_row w || (times_row w || (times_inline_row w || (quotient_row w || (inline_shift_row w || (masked_shift_row w || false)))))) (λ e. absurd (none e))
    (either Q (arithmetic_row w) (times_row w || (times_inline_row w || (quotient_row w || (inline_shift_row w || (masked_shift_row w || false))))) (λ e. no _ (divides_no_sum o v) (and_parts (adds o || (joins_bits o && true)) _ e).0)
    (either Q (times_row w) (times_inline_row w || (quotient_row w || (inline_shift_row w || (masked_shift_row w || false)))) (λ e. no _ (divides_no_product o v) (and_parts (multiplies o) _ e).0)
    (either Q (times_inline_row w) (quotient_row w || (inline_shift_row w || (masked_shift_row w || false))) (λ e. no _ (divides_no_product o v) (and_parts (multiplies o) _ e).0)
    (either Q (quotient_row w) (inline_shift_row w || (masked_shift_row w || false)) (λ e. (and_parts (divides o) _ e).1)
    (either Q (inline_shift_row w) (masked_shift_row w || false) (λ e. no _ (divides_no_shift o v) (and_parts (is_shift o) _ e).0)
    (either Q (masked_shift_row w) false (λ e. no _ (divides_no_shift o v) (and_parts (is_shift o) _ e).0) (none_more Q)))))))
    h

-- ---- what there is of a quotient
pub record QuotientFound (home : Homes) (z : Size) (d : Lval) (o : BinOp) (a b : Expr) : Type 0 where
  pub kind : Wide
  pub variable : Pinned
  pub x : Arg
  pub y : Arg
  pub p : Leaks
  pub q : Leaks
  pub divides : divider o ≡ Some kind
  pub long : IsLong z
  pub result : IsPinned home z d (Some variable)
  pub first : IsArg home z a x p
  pub second : IsArg home z b y q
  pub no_number : NotImm y
  pub apart : is_apart (Some variable) y ≡ true
  pub can : All CanEncode (quotient_code o kind z variable x y)

zero_fits : (z : Size) (c : ℕ) → IsLong z → fit_at c z (arg.Imm (pos 0)) ≡ true
zero_fits S8 c w = absurd w
zero_fits S16 c w = absurd w
zero_fits S32 c w = refl
zero_fits S64 c w = refl

encoded : (o : BinOp) (w : Wide) (z : Size) (k : Pinned) (x y : Arg) → IsLong z → Fits z x → is_place y ≡ true → Fits z y → All CanEncode (quotient_code o w z k x y)
encoded o w z k x y long fx py fy =
    let l : Option Pinned = if is_quotient o then Some k else None in
    let h : Option Pinned = if is_quotient o then None else Some k in
    divide_all CanEncode w z l h x y
    (encode (action.Mov z (low_at l) x) (λ c u. to_register_spelled c z reg.Rax l x (fx c u)))
    (encode (action.Sign z l h) (λ c u. sign_spelled c z l h long))
    (encode (action.Mov z (high_at h) (arg.Imm (pos 0))) (λ c u. to_register_spelled c z reg.Rdx h (arg.Imm (pos 0)) (zero_fits z c long)))
    (encode (action.Wide w z l h y) (λ c u. wide_spelled c w z l h y long py (fy c u)))

module _ (frame : Frame) (home : Homes) (homing : IsHoming frame home) (z : Size) (d : Lval) (D : LeftAs home z d) (rd : is_rm (dest_of d) ≡ true) (fd : Fits z D.arg') where
  -- a: the first operand
  pub quotient_found : (o : BinOp) (a b : Expr) (x : Arg) (p : Leaks) (oa : Operand) → IsArg home z a x p → Fits z x → IsExpanded home b → (is_rmi (class_of b) ≡ true → HasType (value b) (place.word z)) → IsKept z b → divides o ≡ true
      → has_quotient (dest_of d) oa (operand_of A d b) ≡ true → QuotientFound home z d o a b
  quotient_found o a b x p oa i fx e t l v h =
      let r = and_parts (is_r (dest_of d)) _ h in
      let s = and_parts (is_long (class_size (dest_of d))) _ r.1 in
      let u = and_parts (is_rmi oa.class) _ s.1 in
      let w = and_parts (is_rm (class_of b)) (stands_apart (operand_of A d b)) u.1 in
      let rmi = or_left (is_rm (class_of b)) (is_i (class_of b)) w.0 in
      let O = operand_there home z (place.word z) b of_size e (t rmi) rmi in
      let f = O.fits None l in
      let m = stands_place O.stands w.0 in
      let c = variable_of D.stands r.0 in
      let g = register_of home z d D.arg' D.leaks D.is (ap is_variable c.1) in
      let long = long_of (class_size (dest_of d)) z D.sized s.0 in
      let k : Pinned = record { variable = g.number; span = (ref_of g.var).span } in
      let kind = divider_of o v in
      record {
        kind = kind.0;
        variable = k;
        x = x;
        y = O.arg';
        p = p;
        q = O.leaks;
        divides = kind.1;
        long = long;
        result = subst (λ y. IsPinned home z y (Some k)) (sym g.left_is) (a_word g.var k g.kind_is g.there refl);
        first = i;
        second = O.is;
        no_number = not_imm O.arg' (place_not_imm O.arg' m);
        apart = subst (λ x. is_free x O.arg' ≡ true) g.arg_is ((beside_operand frame home homing z d D rd fd b O f).apart g.number g.arg_is w.1);
        can = encoded o kind.0 z k x O.arg' long fx m f;
      }
