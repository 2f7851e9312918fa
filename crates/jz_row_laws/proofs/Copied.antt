-- What is copied to a parameter or from a result has a row, so its text says how many numbers it leaks.
use Rattle.std.proofs.Common.{◌≡◌, Bool, true, false, not, ◌&&◌, ◌||◌, List, ◌∷◌, Option, Some, None, refl, sym, ap, ◌∙◌, subst, inl, inr, if◌then◌else◌}
use Rattle.std.specs.Prelude.{◌⊎◌, ℤ, pos}
use Rattle.std.specs.Ordering.{int_eq}
use Rattle.jz_integers.specs.Integers.{written_number}
use Rattle.std.specs.List.{list_any}
use Rattle.std.proofs.lemmas.Bool.{and_parts, false≢true}
use Rattle.std.proofs.lemmas.List.Folds.{list_any-append}
use Rattle.jz_tree.specs.Operators.{carries, divides, is_shift, joins}
use Rattle.jz_tree.specs.Span.{Span}
use Rattle.jz_tree.specs.Size.{Size}
use Rattle.jz_tree.specs.declared.expr.BinOp.{BinOp}
use Rattle.jz_tree.specs.declared.expr.BinOp.TheVariants as op
use Rattle.jz_tree.specs.declared.expr.Expr.{Expr}
use Rattle.jz_tree.specs.declared.expr.Expr.TheOpen.{Expr-F}
use Rattle.jz_tree.specs.declared.expr.Expr.TheVariants as expr
use Rattle.jz_tree.specs.declared.expr.Var.{Var}
use Rattle.jz_tree.specs.declared.expr.Expr.TheViews.{out-Expr, out-Access, out-roll-Expr}
use Rattle.jz_tree.specs.declared.stmt.Lval.{Lval}
use Rattle.jz_tree.specs.declared.stmt.StmtKind.{StmtKind}
use Rattle.jz_type_names.specs.Kinds.{known_of}
use Rattle.jz_select.specs.declared.pattern.Pattern.{Pattern}
use Rattle.jz_select.specs.declared.class.Class.{Class}
use Rattle.jz_select.specs.declared.class.Class.TheVariants as class
use Rattle.jz_select.specs.declared.class.Mask.TheVariants as mask
use Rattle.jz_select.specs.declared.class.Operand.{Operand}
use Rattle.jz_select.specs.declared.shape.Value.{Value}
use Rattle.jz_select.specs.declared.shape.Value.TheVariants as values
use Rattle.jz_select.specs.declared.shape.Shape as rowed
use Rattle.jz_select.specs.declared.shape.Shape.TheVariants as shapes
use Rattle.jz_select.specs.Sums.{is_address, is_index}
use Rattle.jz_select.specs.Look.{look_of, terms_of, bin_inline}
use Rattle.jz_select.specs.Operands.{inline_or, mask_of, is_byte, register_layer, masked_class, class_layer, class_of, dest_of}
use Rattle.jz_select.specs.Rows.{is_r, is_m, is_i, is_rm, is_rmi, is_flag, adds, joins_bits, multiplies, masks, copy_row, arithmetic_row, carrying_row, unary_row, times_row, times_inline_row, quotient_row, inline_shift_row, masked_shift_row, zero_extension_row, sign_extension_row, truncation_row}
use Rattle.jz_select.specs.Places.{Answers}
use Rattle.jz_select.specs.Shapes.{Asked, whichever, beside, carry_layer, two_beside, value_layer, assign_of, shape_of}
use Rattle.jz_select.specs.Selected.{Row, rows, FirstMatches, Tells, IsSelected, IsCopied}
use Rattle.jz_meaning.specs.Shapes.{Sorts}
use Rattle.jz_row_laws.proofs.Booleans.{or_parts, or_left, or_right}
use Rattle.jz_row_laws.proofs.Fixed.{Layer, HasClass, no_if, no_cell, is_masked, Fixed, FixedLayer, both_fixed, fixed_out, class_layer_fixed, class_fixed, mask_fixed}

-- ---- one of the rows matches

abbrev pub Matches : rowed.Shape → Type 0
Matches s = list_any (λ (q : Row). q.1 s) rows ≡ true

first_any : (rs : List Row) (s : rowed.Shape) (r : Row) → FirstMatches rs s r → list_any (λ (q : Row). q.1 s) rs ≡ true
first_any rs s r (before, after, parts, holds, none) =
    ap (λ xs. list_any (λ (q : Row). q.1 s) xs) parts
    ∙ (list_any-append (λ (q : Row). q.1 s) before (r ∷ after)
    ∙ or_right (list_any (λ (q : Row). q.1 s) before) (list_any (λ (q : Row). q.1 s) (r ∷ after)) (or_left (r.1 s) (list_any (λ (q : Row). q.1 s) after) holds))

told_any : (s : rowed.Shape) (p : Pattern) → Tells rows s (Some p) → Matches s
told_any s p (r, is, first) = first_any rows s r first

no_answers : Answers
no_answers x y = false

copied_matches : (to : Lval) (e : Expr) (p : Pattern) → IsCopied to e (Some p) → Matches (assign_of (whichever no_answers) None to None e)
unfolding IsCopied
copied_matches to e p h = told_any (assign_of (whichever no_answers) None to None e) p (h no_answers)

pub selected_matches : (k : StmtKind) (p : Pattern) → IsSelected k (Some p) → (answers : Answers) × Matches (shape_of (whichever answers) k)
unfolding IsSelected
selected_matches k p h = (no_answers, told_any (shape_of (whichever no_answers) k) p (h no_answers))

-- what is free has none
pub no_free : Matches shapes.Free → ⊥
no_free e = false≢true e

-- ---- the rows of an assignment of one value

pub rm_class : (c : Class) → is_rm c ≡ true → HasClass c
rm_class c h = or_left (is_rm c) (is_i c) h

pub i_class : (c : Class) → is_i c ≡ true → HasClass c
i_class c h = or_right (is_rm c) (is_i c) h

pub r_class : (c : Class) → is_r c ≡ true → HasClass c
r_class c h = rm_class c (or_left (is_r c) (is_m c) h)

-- what a row asks of the operands
abbrev pub Fit : Class → Value → Type 0
Fit w values.Alone = HasClass w
Fit w (values.One a) = HasClass w ⊎ HasClass a.class
Fit w (values.Two p a o) = HasClass w ⊎ ((joins p ≡ false) × HasClass a.class × (HasClass o.class ⊎ (is_masked o.class ≡ true)))
Fit w (values.Carry p a o) = HasClass w ⊎ (HasClass a.class × HasClass o.class)
Fit w (values.Cast z signed c) = HasClass w ⊎ HasClass c

by_copy : (d w : Class) (v : Value) → copy_row (shapes.Assign None d w v) ≡ true → HasClass w
by_copy d w v h = (and_parts (is_rmi w) _ (and_parts (is_rm d) _ h).1).0

-- the operation gives no truth
sum_join : (p : BinOp) → (adds p || (joins_bits p && true)) ≡ true → joins p ≡ false
sum_join op.AndThen e = absurd (false≢true e)
sum_join op.OrElse e = absurd (false≢true e)
sum_join p e = refl

pub product_join : (p : BinOp) → multiplies p ≡ true → joins p ≡ false
product_join op.AndThen e = absurd (false≢true e)
product_join op.OrElse e = absurd (false≢true e)
product_join p e = refl

pub quotient_join : (p : BinOp) → divides p ≡ true → joins p ≡ false
quotient_join op.AndThen e = absurd (false≢true e)
quotient_join op.OrElse e = absurd (false≢true e)
quotient_join p e = refl

pub shift_join : (p : BinOp) → is_shift p ≡ true → joins p ≡ false
shift_join op.AndThen e = absurd (false≢true e)
shift_join op.OrElse e = absurd (false≢true e)
shift_join p e = refl

pub masks_mask : (b : Bool) (c : Class) → masks b c ≡ true → is_masked c ≡ true
masks_mask b (class.Masked m) h = refl
masks_mask b (class.Reg z) h = absurd (false≢true h)
masks_mask b (class.Mem z) h = absurd (false≢true h)
masks_mask b class.Inline h = absurd (false≢true h)
masks_mask b class.Flag h = absurd (false≢true h)
masks_mask b class.Skip h = absurd (false≢true h)
masks_mask b class.Other h = absurd (false≢true h)

module _ (d w : Class) where
  abbrev S : Value → rowed.Shape
  S v = shapes.Assign None d w v

  by_arithmetic : (p : BinOp) (a o : Operand) → arithmetic_row (S (values.Two p a o)) ≡ true → Fit w (values.Two p a o)
  by_arithmetic p a o h =
      let x = and_parts (adds p || (joins_bits p && true)) _ h in
      let y = and_parts (is_rmi o.class) _ x.1 in
      let z = and_parts _ _ y.1 in
      inr (sum_join p x.0, (and_parts (is_rmi a.class) _ (and_parts (is_rm d) _ z.1).1).0, inl y.0)

  by_times : (p : BinOp) (a o : Operand) → times_row (S (values.Two p a o)) ≡ true → Fit w (values.Two p a o)
  by_times p a o h =
      let x = and_parts (multiplies p) _ h in
      let y = and_parts _ _ (and_parts (is_r d) _ x.1).1 in
      let z = and_parts (is_rm o.class) _ y.1 in
      inr (product_join p x.0, (and_parts (is_rmi a.class) _ (and_parts (is_rm d) _ z.1).1).0, inl (rm_class o.class z.0))

  by_times_inline : (p : BinOp) (a o : Operand) → times_inline_row (S (values.Two p a o)) ≡ true → Fit w (values.Two p a o)
  by_times_inline p a o h =
      let x = and_parts (multiplies p) _ h in
      let y = and_parts _ _ (and_parts (is_r d) _ x.1).1 in
      let z = and_parts (is_rm a.class) (is_i o.class) y.1 in
      inr (product_join p x.0, rm_class a.class z.0, inl (i_class o.class z.1))

  by_quotient : (p : BinOp) (a o : Operand) → quotient_row (S (values.Two p a o)) ≡ true → Fit w (values.Two p a o)
  by_quotient p a o h =
      let x = and_parts (divides p) _ h in
      let y = and_parts _ _ (and_parts (is_r d) _ x.1).1 in
      let z = and_parts (is_rmi a.class) _ y.1 in
      inr (quotient_join p x.0, z.0, inl (rm_class o.class (and_parts (is_rm o.class) _ z.1).0))

  by_inline_shift : (p : BinOp) (a o : Operand) → inline_shift_row (S (values.Two p a o)) ≡ true → Fit w (values.Two p a o)
  by_inline_shift p a o h =
      let x = and_parts (is_shift p) _ h in
      let y = and_parts (is_i o.class) _ x.1 in
      inr (shift_join p x.0, (and_parts (is_rmi a.class) _ (and_parts (is_rm d) _ y.1).1).0, inl (i_class o.class y.0))

  by_masked_shift : (p : BinOp) (a o : Operand) → masked_shift_row (S (values.Two p a o)) ≡ true → Fit w (values.Two p a o)
  by_masked_shift p a o h =
      let x = and_parts (is_shift p) _ h in
      let y = and_parts (masks _ o.class) _ x.1 in
      inr (shift_join p x.0, (and_parts (is_rmi a.class) _ (and_parts (is_rm d) _ y.1).1).0, inr (masks_mask _ o.class y.0))

  by_carrying : (p : BinOp) (a o : Operand) → carrying_row (S (values.Carry p a o)) ≡ true → Fit w (values.Carry p a o)
  by_carrying p a o h =
      let y = and_parts (is_rmi o.class) _ h in
      let z = and_parts _ _ y.1 in
      inr ((and_parts (is_rmi a.class) _ (and_parts (is_rm d) _ z.1).1).0, y.0)

  by_unary : (a : Operand) → unary_row (S (values.One a)) ≡ true → Fit w (values.One a)
  by_unary a h = inr (and_parts (is_rmi a.class) _ (and_parts (is_rm d) _ h).1).0

  by_zero_extension : (z : Size) (s : Bool) (c : Class) → zero_extension_row (S (values.Cast z s c)) ≡ true → Fit w (values.Cast z s c)
  by_zero_extension z s c h = inr (rm_class c (and_parts (is_rm c) _ (and_parts (is_r d) _ (and_parts (not s) _ h).1).1).0)

  by_sign_extension : (z : Size) (s : Bool) (c : Class) → sign_extension_row (S (values.Cast z s c)) ≡ true → Fit w (values.Cast z s c)
  by_sign_extension z s c h = inr (rm_class c (and_parts (is_rm c) _ (and_parts (is_r d) _ (and_parts s _ h).1).1).0)

  by_truncation : (z : Size) (s : Bool) (c : Class) → truncation_row (S (values.Cast z s c)) ≡ true → Fit w (values.Cast z s c)
  by_truncation z s c h = inr (r_class c (and_parts (is_r c) _ (and_parts (is_r d) _ (and_parts (not s) _ h).1).1).0)

  -- ---- one row after another
  first : (v : Value) (rest : Bool) → (rest ≡ true → Fit w v) → (HasClass w → Fit w v) → (copy_row (S v) || rest) ≡ true → Fit w v
  first v rest f g h = by_part (or_parts (copy_row (S v)) rest h)
    where
      by_part : (copy_row (S v) ≡ true) ⊎ (rest ≡ true) → Fit w v
      by_part (inl t) = g (by_copy d w v t)
      by_part (inr t) = f t

  next : (v : Value) (row rest : Bool) → (row ≡ true → Fit w v) → (rest ≡ true → Fit w v) → (row || rest) ≡ true → Fit w v
  next v row rest f g h = by_part (or_parts row rest h)
    where
      by_part : (row ≡ true) ⊎ (rest ≡ true) → Fit w v
      by_part (inl t) = f t
      by_part (inr t) = g t

  none : (v : Value) → false ≡ true → Fit w v
  none v e = absurd (false≢true e)

  fits : (v : Value) → Matches (S v) → Fit w v
  fits values.Alone h = first values.Alone false (none values.Alone) (λ k. k) h
  fits (values.One a) h = let v = values.One a in first v (unary_row (S v) || false) (next v (unary_row (S v)) false (by_unary a) (none v)) inl h
  fits (values.Two p a o) h =
      let v : Value = values.Two p a o in
      first v (arithmetic_row (S v) || (times_row (S v) || (times_inline_row (S v) || (quotient_row (S v) || (inline_shift_row (S v) || (masked_shift_row (S v) || false))))))
      (next v (arithmetic_row (S v)) (times_row (S v) || (times_inline_row (S v) || (quotient_row (S v) || (inline_shift_row (S v) || (masked_shift_row (S v) || false))))) (by_arithmetic p a o)
      (next v (times_row (S v)) (times_inline_row (S v) || (quotient_row (S v) || (inline_shift_row (S v) || (masked_shift_row (S v) || false)))) (by_times p a o)
      (next v (times_inline_row (S v)) (quotient_row (S v) || (inline_shift_row (S v) || (masked_shift_row (S v) || false))) (by_times_inline p a o)
      (next v (quotient_row (S v)) (inline_shift_row (S v) || (masked_shift_row (S v) || false)) (by_quotient p a o)
      (next v (inline_shift_row (S v)) (masked_shift_row (S v) || false) (by_inline_shift p a o)
      (next v (masked_shift_row (S v)) false (by_masked_shift p a o) (none v)))))))
      inl h
  fits (values.Carry p a o) h = let v : Value = values.Carry p a o in first v (carrying_row (S v) || false) (next v (carrying_row (S v)) false (by_carrying p a o) (none v)) inl h
  fits (values.Cast z s c) h =
      let v : Value = values.Cast z s c in
      first v (zero_extension_row (S v) || (sign_extension_row (S v) || (truncation_row (S v) || false)))
      (next v (zero_extension_row (S v)) (sign_extension_row (S v) || (truncation_row (S v) || false)) (by_zero_extension z s c)
      (next v (sign_extension_row (S v)) (truncation_row (S v) || false) (by_sign_extension z s c)
      (next v (truncation_row (S v)) false (by_truncation z s c) (none v))))
      inl h

-- ---- expressions

pub carry_join : (o p : BinOp) → carries o p ≡ true → (joins o ≡ false) × (joins p ≡ false)
carry_join op.Add op.Add e = (refl, refl)
carry_join op.Sub op.Sub e = (refl, refl)
carry_join o p e = absurd (false≢true e)

module _ (sorts : Sorts) where
  pub operand_fixed : (e : Expr) → HasClass (class_of e) ⊎ (is_masked (class_of e) ≡ true) → Fixed sorts e
  operand_fixed e (inl h) = class_fixed sorts e h
  operand_fixed e (inr h) = mask_fixed sorts e h

  inline_no_flag : (b : Bool) → is_flag (inline_or b class.Other) ≡ true → ⊥
  inline_no_flag true h = false≢true h
  inline_no_flag false h = false≢true h

  mask_no_flag : (n : Option ℤ) → is_flag (mask_of n) ≡ false
  mask_no_flag None = refl
  mask_no_flag (Some k) = two (int_eq k (pos 31)) (int_eq k (pos 63))
    where
      two : (a b : Bool) → is_flag (if a then class.Masked mask.Five else if b then class.Masked mask.Six else class.Other) ≡ false
      two true b = refl
      two false true = refl
      two false false = refl

  masked_no_flag : (b : Bool) (o : BinOp) (x y : Expr) → is_flag (inline_or b (masked_class o x y)) ≡ true → ⊥
  masked_no_flag true o x y h = false≢true h
  masked_no_flag false op.And x y h = no_if is_flag refl (is_byte (register_layer (out-Expr x))) (mask_of (written_number y)) (mask_no_flag (written_number y)) h
  masked_no_flag false o x y h = false≢true h

  flag_layer : (x : Layer) → is_flag (class_layer x) ≡ true → FixedLayer sorts x
  flag_layer (Expr-F.Num n at) h = refl
  flag_layer (Expr-F.Expr::Bool b at) h = refl
  flag_layer (Expr-F.Var v) h = refl
  flag_layer (Expr-F.Cell v i) h = absurd (no_cell is_flag (λ z. refl) (λ z. refl) refl (known_of v) (look_of i).inline (is_index (terms_of i)) h)
  flag_layer (Expr-F.Load a) h = absurd (no_if is_flag refl (is_address (terms_of (out-Access a).at)) (class.Mem (out-Access a).size) refl h)
  flag_layer (Expr-F.Neg a at) h = absurd (inline_no_flag (look_of a).inline h)
  flag_layer (Expr-F.Not a at) h = absurd (inline_no_flag (look_of a).inline h)
  flag_layer (Expr-F.Cast z s a at) h = absurd (false≢true h)
  flag_layer (Expr-F.Bin o a b at) h = absurd (masked_no_flag (bin_inline o (look_of a) (look_of b)) o a b h)

  pub flag_fixed : (e : Expr) → is_flag (class_of e) ≡ true → Fixed sorts e
  flag_fixed e h = fixed_out sorts e (flag_layer (out-Expr e) h)

  module _ (asked : Asked) (to : Lval) where
    carry_by : (o p : BinOp) (w : Class) (x y : Expr) (at : Span) (b : Bool) → carries o p ≡ b → Fit w (if b then values.Carry o (beside asked to (Some x) x) (beside asked to (Some x) y) else values.Alone)
        → HasClass w ⊎ ((joins o ≡ false) × FixedLayer sorts (Expr-F.Bin p x y at))
    carry_by o p w x y at true e (inl h) = inl h
    carry_by o p w x y at true e (inr h) =
        let j = carry_join o p e in
        inr (j.0, both_fixed sorts p x y at j.1 (class_fixed sorts x h.0) (class_fixed sorts y h.1))
    carry_by o p w x y at false e h = inl h

    carry_fixed : (o : BinOp) (w : Class) (x : Layer) → Fit w (carry_layer asked to o x) → HasClass w ⊎ ((joins o ≡ false) × FixedLayer sorts x)
    carry_fixed o w (Expr-F.Bin p x y at) h = carry_by o p w x y at (carries o p) refl h
    carry_fixed o w (Expr-F.Num n at) h = inl h
    carry_fixed o w (Expr-F.Expr::Bool b at) h = inl h
    carry_fixed o w (Expr-F.Var v) h = inl h
    carry_fixed o w (Expr-F.Cell v i) h = inl h
    carry_fixed o w (Expr-F.Load a) h = inl h
    carry_fixed o w (Expr-F.Neg a at) h = inl h
    carry_fixed o w (Expr-F.Not a at) h = inl h
    carry_fixed o w (Expr-F.Cast z s a at) h = inl h

    bin_by : (o : BinOp) (a b : Expr) (at : Span) (c : Bool) → is_flag (class_of b) ≡ c → Fit (class_layer (Expr-F.Bin o a b at)) (if c then carry_layer asked to o (out-Expr a) else two_beside asked to o a b) → FixedLayer sorts (Expr-F.Bin o a b at)
    bin_by o a b at true e h = by_carry (carry_fixed o (class_layer (Expr-F.Bin o a b at)) (out-Expr a) h)
      where
        by_carry : HasClass (class_layer (Expr-F.Bin o a b at)) ⊎ ((joins o ≡ false) × FixedLayer sorts (out-Expr a)) → FixedLayer sorts (Expr-F.Bin o a b at)
        by_carry (inl k) = class_layer_fixed sorts (Expr-F.Bin o a b at) k
        by_carry (inr k) = both_fixed sorts o a b at k.0 (fixed_out sorts a k.1) (flag_fixed b e)
    bin_by o a b at false e (inl h) = class_layer_fixed sorts (Expr-F.Bin o a b at) h
    bin_by o a b at false e (inr h) = both_fixed sorts o a b at h.0 (class_fixed sorts a h.1) (operand_fixed b h.2)

    pub layer_fixed : (x : Layer) → Fit (class_layer x) (value_layer asked to x) → FixedLayer sorts x
    layer_fixed (Expr-F.Num n at) h = refl
    layer_fixed (Expr-F.Expr::Bool b at) h = refl
    layer_fixed (Expr-F.Var v) h = refl
    layer_fixed (Expr-F.Cell v i) h = class_layer_fixed sorts (Expr-F.Cell v i) h
    layer_fixed (Expr-F.Load a) h = class_layer_fixed sorts (Expr-F.Load a) h
    layer_fixed (Expr-F.Neg a at) (inl h) = class_layer_fixed sorts (Expr-F.Neg a at) h
    layer_fixed (Expr-F.Neg a at) (inr h) = class_fixed sorts a h
    layer_fixed (Expr-F.Not a at) (inl h) = class_layer_fixed sorts (Expr-F.Not a at) h
    layer_fixed (Expr-F.Not a at) (inr h) = class_fixed sorts a h
    layer_fixed (Expr-F.Cast z s a at) (inl h) = class_layer_fixed sorts (Expr-F.Cast z s a at) h
    layer_fixed (Expr-F.Cast z s a at) (inr h) = class_fixed sorts a h
    layer_fixed (Expr-F.Bin o a b at) h = bin_by o a b at (is_flag (class_of b)) refl h

  -- what is copied
  pub copied_fixed : (to : Lval) (e : Expr) (p : Pattern) → IsCopied to e (Some p) → Fixed sorts e
  copied_fixed to e p h =
      let asked = whichever no_answers in
      fixed_out sorts e (layer_fixed asked to (out-Expr e) (fits (dest_of to) (class_of e) (value_layer asked to (out-Expr e)) (copied_matches to e p h)))

-- ---- where a variable is copied to

var_layer : (v : Var) → out-Expr (expr.Var v) ≡ Expr-F.Var v
var_layer v = ap out-Expr (sym (expr.rolls-Var v)) ∙ out-roll-Expr (Expr-F.Var v)

alone_place : (d w : Class) → Matches (shapes.Assign None d w values.Alone) → is_rm d ≡ true
alone_place d w h = by_part (or_parts (copy_row (shapes.Assign None d w values.Alone)) false h)
  where
    by_part : (copy_row (shapes.Assign None d w values.Alone) ≡ true) ⊎ (false ≡ true) → is_rm d ≡ true
    by_part (inl t) = (and_parts (is_rm d) _ t).0
    by_part (inr t) = absurd (false≢true t)

pub copied_place : (to : Lval) (v : Var) (p : Pattern) → IsCopied to (expr.Var v) (Some p) → HasClass (dest_of to)
copied_place to v p h =
    let asked = whichever no_answers in
    rm_class (dest_of to)
    (alone_place (dest_of to) (class_layer (Expr-F.Var v))
    (subst (λ (x : Layer). Matches (shapes.Assign None (dest_of to) (class_layer x) (value_layer asked to x))) (var_layer v) (copied_matches to (expr.Var v) p h)))
