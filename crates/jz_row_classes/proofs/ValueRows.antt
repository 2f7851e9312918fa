-- What the row of an assignment of one value asks of its destination and its operands.
use Rattle.std.proofs.Common.{◌≡◌, Bool, true, false, not, ◌&&◌, ◌||◌, None, refl, inl, inr}
use Rattle.std.specs.Prelude.{◌⊎◌}
use Rattle.std.specs.Option.{option_or}
use Rattle.std.proofs.lemmas.Bool.{false≢true, and_parts}
use Rattle.jz_tree.specs.Size.{Size}
use Rattle.jz_tree.specs.Operators.{divides, is_shift}
use Rattle.jz_tree.specs.declared.expr.BinOp.{BinOp}
use Rattle.jz_tree.specs.declared.expr.BinOp.TheVariants as op
use Rattle.jz_select.specs.declared.class.Class.{Class}
use Rattle.jz_select.specs.declared.class.Operand.{Operand}
use Rattle.jz_select.specs.declared.shape.Value.{Value}
use Rattle.jz_select.specs.declared.shape.Value.TheVariants as values
use Rattle.jz_select.specs.declared.shape.Shape as rowed
use Rattle.jz_select.specs.declared.shape.Shape.TheVariants as shapes
use Rattle.jz_select.specs.Rows.{is_r, is_m, is_i, is_rm, is_rmi, class_size, is_longest, are_inline, adds, joins_bits, multiplies, masks, copy_row, arithmetic_row, carrying_row, unary_row, times_row, times_inline_row, quotient_row, inline_shift_row, masked_shift_row, zero_extension_row, sign_extension_row, truncation_row}
use Rattle.jz_row_laws.proofs.Booleans.{or_parts, or_left}
use Rattle.jz_row_laws.proofs.Copied.{Matches, rm_class, i_class}
use Rattle.jz_standing.specs.Typing.{is_computed}
use Rattle.jz_row_classes.specs.RowClasses.{AreOperands}

-- ---- operators
sum_computed : (p : BinOp) → (adds p || (joins_bits p && true)) ≡ true → is_computed p ≡ true
sum_computed op.Add e = refl
sum_computed op.Sub e = refl
sum_computed op.And e = refl
sum_computed op.Or e = refl
sum_computed op.Xor e = refl
sum_computed p e = absurd (false≢true e)

product_computed : (p : BinOp) → multiplies p ≡ true → is_computed p ≡ true
product_computed op.Mul e = refl
product_computed p e = absurd (false≢true e)

quotient_computed : (p : BinOp) → divides p ≡ true → is_computed p ≡ true
quotient_computed op.Div e = refl
quotient_computed op.Rem e = refl
quotient_computed op.DivS e = refl
quotient_computed op.RemS e = refl
quotient_computed p e = absurd (false≢true e)

denied : (b : Bool) → not b ≡ true → b ≡ false
denied true h = absurd (false≢true h)
denied false h = refl

pub r_rm : (c : Class) → is_r c ≡ true → is_rm c ≡ true
r_rm c h = or_left (is_r c) (is_m c) h

module _ (d w : Class) where
  abbrev S : Value → rowed.Shape
  S v = shapes.Assign None d w v

  abbrev pub Found : Value → Type 0
  Found v = (is_rm d ≡ true) × AreOperands w v

  by_arithmetic : (p : BinOp) (a o : Operand) → arithmetic_row (S (values.Two p a o)) ≡ true → Found (values.Two p a o)
  by_arithmetic p a o h =
      let x = and_parts (adds p || (joins_bits p && true)) _ h in
      let y = and_parts (is_rmi o.class) _ x.1 in
      let z = and_parts (is_rm d) _ (and_parts _ _ y.1).1 in
      (z.0, inr ((and_parts (is_rmi a.class) _ z.1).0, inl (sum_computed p x.0, y.0)))

  by_times : (p : BinOp) (a o : Operand) → times_row (S (values.Two p a o)) ≡ true → Found (values.Two p a o)
  by_times p a o h =
      let x = and_parts (multiplies p) _ h in
      let y = and_parts _ _ (and_parts (is_r d) _ x.1).1 in
      let z = and_parts (is_rm o.class) _ y.1 in
      let u = and_parts (is_rm d) _ z.1 in
      (u.0, inr ((and_parts (is_rmi a.class) _ u.1).0, inl (product_computed p x.0, rm_class o.class z.0)))

  by_times_inline : (p : BinOp) (a o : Operand) → times_inline_row (S (values.Two p a o)) ≡ true → Found (values.Two p a o)
  by_times_inline p a o h =
      let x = and_parts (multiplies p) _ h in
      let r = and_parts (is_r d) _ x.1 in
      let y = and_parts _ _ r.1 in
      let z = and_parts (is_rm a.class) (is_i o.class) y.1 in
      (r_rm d r.0, inr (rm_class a.class z.0, inl (product_computed p x.0, i_class o.class z.1)))

  by_quotient : (p : BinOp) (a o : Operand) → quotient_row (S (values.Two p a o)) ≡ true → Found (values.Two p a o)
  by_quotient p a o h =
      let x = and_parts (divides p) _ h in
      let r = and_parts (is_r d) _ x.1 in
      let y = and_parts _ _ r.1 in
      let z = and_parts (is_rmi a.class) _ y.1 in
      (r_rm d r.0, inr (z.0, inl (quotient_computed p x.0, rm_class o.class (and_parts (is_rm o.class) _ z.1).0)))

  by_inline_shift : (p : BinOp) (a o : Operand) → inline_shift_row (S (values.Two p a o)) ≡ true → Found (values.Two p a o)
  by_inline_shift p a o h =
      let x = and_parts (is_shift p) _ h in
      let y = and_parts (is_i o.class) _ x.1 in
      let z = and_parts (is_rm d) _ y.1 in
      (z.0, inr ((and_parts (is_rmi a.class) _ z.1).0, inr (x.0, inl y.0)))

  by_masked_shift : (p : BinOp) (a o : Operand) → masked_shift_row (S (values.Two p a o)) ≡ true → Found (values.Two p a o)
  by_masked_shift p a o h =
      let x = and_parts (is_shift p) _ h in
      let l : Bool = is_longest (option_or (class_size d) (class_size a.class)) in
      let y = and_parts (masks l o.class) _ x.1 in
      let z = and_parts (is_rm d) _ y.1 in
      (z.0, inr ((and_parts (is_rmi a.class) _ z.1).0, inr (x.0, inr (l, y.0))))

  by_carrying : (p : BinOp) (a o : Operand) → carrying_row (S (values.Carry p a o)) ≡ true → Found (values.Carry p a o)
  by_carrying p a o h =
      let y = and_parts (is_rmi o.class) _ h in
      let n = and_parts (not (are_inline a o)) _ y.1 in
      let z = and_parts (is_rm d) _ n.1 in
      (z.0, inr ((and_parts (is_rmi a.class) _ z.1).0, y.0, denied (are_inline a o) n.0))

  by_unary : (a : Operand) → unary_row (S (values.One a)) ≡ true → Found (values.One a)
  by_unary a h = let z = and_parts (is_rm d) _ h in (z.0, inr (and_parts (is_rmi a.class) _ z.1).0)

  by_cast : (z : Size) (s : Bool) (c : Class) (b r k : Bool) → (r ≡ true → is_rm c ≡ true) → (b && (is_r d && (r && k))) ≡ true → Found (values.Cast z s c)
  by_cast z s c b r k f h =
      let x = and_parts (is_r d) _ (and_parts b _ h).1 in
      (r_rm d x.0, inr (f (and_parts r k x.1).0))

  -- ---- one row after another
  first : (v : Value) (rest : Bool) → (rest ≡ true → Found v) → (is_rmi w ≡ true → AreOperands w v) → (copy_row (S v) || rest) ≡ true → Found v
  first v rest f g h = by_part (or_parts (copy_row (S v)) rest h)
    where
      by_part : (copy_row (S v) ≡ true) ⊎ (rest ≡ true) → Found v
      by_part (inl t) = let x = and_parts (is_rm d) _ t in (x.0, g (and_parts (is_rmi w) _ x.1).0)
      by_part (inr t) = f t

  next : (v : Value) (row rest : Bool) → (row ≡ true → Found v) → (rest ≡ true → Found v) → (row || rest) ≡ true → Found v
  next v row rest f g h = by_part (or_parts row rest h)
    where
      by_part : (row ≡ true) ⊎ (rest ≡ true) → Found v
      by_part (inl t) = f t
      by_part (inr t) = g t

  none : (v : Value) → false ≡ true → Found v
  none v e = absurd (false≢true e)

  pub found : (v : Value) → Matches (S v) → Found v
  found values.Alone h = first values.Alone false (none values.Alone) (λ k. k) h
  found (values.One a) h = let v = values.One a in first v (unary_row (S v) || false) (next v (unary_row (S v)) false (by_unary a) (none v)) inl h
  found (values.Two p a o) h =
      let v : Value = values.Two p a o in
      first v (arithmetic_row (S v) || (times_row (S v) || (times_inline_row (S v) || (quotient_row (S v) || (inline_shift_row (S v) || (masked_shift_row (S v) || false))))))
      (next v (arithmetic_row (S v)) (times_row (S v) || (times_inline_row (S v) || (quotient_row (S v) || (inline_shift_row (S v) || (masked_shift_row (S v) || false))))) (by_arithmetic p a o)
      (next v (times_row (S v)) (times_inline_row (S v) || (quotient_row (S v) || (inline_shift_row (S v) || (masked_shift_row (S v) || false)))) (by_times p a o)
      (next v (times_inline_row (S v)) (quotient_row (S v) || (inline_shift_row (S v) || (masked_shift_row (S v) || false))) (by_times_inline p a o)
      (next v (quotient_row (S v)) (inline_shift_row (S v) || (masked_shift_row (S v) || false)) (by_quotient p a o)
      (next v (inline_shift_row (S v)) (masked_shift_row (S v) || false) (by_inline_shift p a o)
      (next v (masked_shift_row (S v)) false (by_masked_shift p a o) (none v)))))))
      inl h
  found (values.Carry p a o) h = let v : Value = values.Carry p a o in first v (carrying_row (S v) || false) (next v (carrying_row (S v)) false (by_carrying p a o) (none v)) inl h
  found (values.Cast z s c) h =
      let v : Value = values.Cast z s c in
      first v (zero_extension_row (S v) || (sign_extension_row (S v) || (truncation_row (S v) || false)))
      (next v (zero_extension_row (S v)) (sign_extension_row (S v) || (truncation_row (S v) || false)) (by_cast z s c (not s) (is_rm c) _ (λ k. k))
      (next v (sign_extension_row (S v)) (truncation_row (S v) || false) (by_cast z s c s (is_rm c) _ (λ k. k))
      (next v (truncation_row (S v)) false (by_cast z s c (not s) (is_r c) _ (r_rm c)) (none v))))
      inl h
