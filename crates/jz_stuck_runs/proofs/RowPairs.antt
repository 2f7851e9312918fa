-- What the rows of the pattern table ask of two left sides, and of `_ op= e`.
use Rattle.std.proofs.Common.{◌≡◌, Bool, true, false, not, ◌&&◌, ◌||◌, Some, None, refl, inl, inr, if◌then◌else◌}
use Rattle.std.specs.Prelude.{◌⊎◌}
use Rattle.std.proofs.lemmas.Bool.{false≢true, and_parts}
use Rattle.jz_tree.specs.Operators.{carries}
use Rattle.jz_tree.specs.Span.{Span}
use Rattle.jz_tree.specs.declared.expr.BinOp.{BinOp}
use Rattle.jz_tree.specs.declared.expr.Expr.{Expr}
use Rattle.jz_tree.specs.declared.expr.Expr.TheOpen.{Expr-F}
use Rattle.jz_tree.specs.declared.expr.Expr.TheViews.{out-Expr}
use Rattle.jz_tree.specs.declared.stmt.Lval.{Lval}
use Rattle.jz_tree.specs.declared.stmt.Lval.TheVariants as lval
use Rattle.jz_select.specs.declared.class.Class.{Class}
use Rattle.jz_select.specs.declared.class.Class.TheVariants as class
use Rattle.jz_select.specs.declared.class.Operand.{Operand}
use Rattle.jz_select.specs.declared.shape.Value.{Value}
use Rattle.jz_select.specs.declared.shape.Value.TheVariants as values
use Rattle.jz_select.specs.declared.shape.Shape as rowed
use Rattle.jz_select.specs.declared.shape.Shape.TheVariants as shapes
use Rattle.jz_select.specs.Operands.{class_of, dest_of}
use Rattle.jz_select.specs.Rows.{is_i, is_rm, is_rmi, is_flag, is_pinned, is_long, may_lead, are_inline, adds, joins_bits, multiplies, product_size, arithmetic_row, carrying_row, times_row, times_inline_row, wide_product_row, quotient_row, inline_shift_row, masked_shift_row}
use Rattle.jz_select.specs.Shapes.{Asked, itself, beside, first_of, carry_layer, value_layer, update_layer, assign_of}
use Rattle.jz_judgement.specs.HasType.{Layer}
use Rattle.jz_row_laws.proofs.Booleans.{or_parts}
use Rattle.jz_row_laws.proofs.Copied.{Matches}

next : (P : Type 0) (row rest : Bool) → (row ≡ true → P) → (rest ≡ true → P) → (row || rest) ≡ true → P
next P row rest f g h = by_part (or_parts row rest h)
  where
    by_part : (row ≡ true) ⊎ (rest ≡ true) → P
    by_part (inl t) = f t
    by_part (inr t) = g t

none_more : (P : Type 0) → false ≡ true → P
none_more P e = absurd (false≢true e)

-- ---- `_` is not changed
module _ (w : Class) where
  abbrev A : Value → rowed.Shape
  A v = shapes.Assign None class.Skip w v

  skip_arithmetic : (p : BinOp) (a o : Operand) → arithmetic_row (A (values.Two p a o)) ≡ true → ⊥
  skip_arithmetic p a o h =
      let x = and_parts (adds p || (joins_bits p && true)) _ h in
      let y = and_parts (is_rmi o.class) _ x.1 in
      false≢true (and_parts (not (are_inline a o)) false y.1).1

  skip_times : (p : BinOp) (a o : Operand) → times_row (A (values.Two p a o)) ≡ true → ⊥
  skip_times p a o h = false≢true (and_parts (multiplies p) false h).1

  skip_times_inline : (p : BinOp) (a o : Operand) → times_inline_row (A (values.Two p a o)) ≡ true → ⊥
  skip_times_inline p a o h = false≢true (and_parts (multiplies p) false h).1

  skip_quotient : (p : BinOp) (a o : Operand) → quotient_row (A (values.Two p a o)) ≡ true → ⊥
  skip_quotient p a o h = false≢true (and_parts _ false h).1

  skip_inline_shift : (p : BinOp) (a o : Operand) → inline_shift_row (A (values.Two p a o)) ≡ true → ⊥
  skip_inline_shift p a o h = false≢true (and_parts (is_i o.class) false (and_parts _ _ h).1).1

  skip_masked_shift : (p : BinOp) (a o : Operand) → masked_shift_row (A (values.Two p a o)) ≡ true → ⊥
  skip_masked_shift p a o h = false≢true (and_parts _ false (and_parts _ _ h).1).1

  skip_two : (p : BinOp) (a o : Operand) → Matches (A (values.Two p a o)) → ⊥
  skip_two p a o h =
      let v : Value = values.Two p a o in
      next ⊥ (arithmetic_row (A v)) (times_row (A v) || (times_inline_row (A v) || (quotient_row (A v) || (inline_shift_row (A v) || (masked_shift_row (A v) || false))))) (skip_arithmetic p a o)
      (next ⊥ (times_row (A v)) (times_inline_row (A v) || (quotient_row (A v) || (inline_shift_row (A v) || (masked_shift_row (A v) || false)))) (skip_times p a o)
      (next ⊥ (times_inline_row (A v)) (quotient_row (A v) || (inline_shift_row (A v) || (masked_shift_row (A v) || false))) (skip_times_inline p a o)
      (next ⊥ (quotient_row (A v)) (inline_shift_row (A v) || (masked_shift_row (A v) || false)) (skip_quotient p a o)
      (next ⊥ (inline_shift_row (A v)) (masked_shift_row (A v) || false) (skip_inline_shift p a o)
      (next ⊥ (masked_shift_row (A v)) false (skip_masked_shift p a o) (none_more ⊥))))))
      h

  skip_carry : (p : BinOp) (a o : Operand) → Matches (A (values.Carry p a o)) → ⊥
  skip_carry p a o h = next ⊥ (carrying_row (A (values.Carry p a o))) false by_carrying (none_more ⊥) h
    where
      by_carrying : carrying_row (A (values.Carry p a o)) ≡ true → ⊥
      by_carrying h = false≢true (and_parts (not (are_inline a o)) false (and_parts (is_rmi o.class) _ h).1).1

-- ---- behind a flag or the high word
pub record IsSumRow (d : Class) (p : BinOp) (a o : Operand) : Type 0 where
  pub adding : adds p ≡ true
  pub to : is_rm d ≡ true
  pub second : is_rmi o.class ≡ true

pub record IsProductRow (x d : Class) (p : BinOp) (a b : Operand) : Type 0 where
  pub multiplying : multiplies p ≡ true
  pub long : is_long (product_size None x d a b) ≡ true
  pub first : is_rmi a.class ≡ true
  pub second : is_rm b.class ≡ true

abbrev pub PairFits : Class → Class → Value → Type 0
PairFits x d values.Alone = ⊥
PairFits x d (values.One a) = ⊥
PairFits x d (values.Cast z s c) = ⊥
PairFits x d (values.Carry p a o) = (is_rm d ≡ true) × (is_rmi o.class ≡ true)
PairFits x d (values.Two p a o) = IsSumRow d p a o ⊎ IsProductRow x d p a o

module _ (x d w : Class) where
  abbrev B : Value → rowed.Shape
  B v = shapes.Assign (Some x) d w v

  sum_row : (p : BinOp) (a o : Operand) → arithmetic_row (B (values.Two p a o)) ≡ true → IsSumRow d p a o
  sum_row p a o h =
      let y = and_parts (adds p || (joins_bits p && false)) _ h in
      let l = and_parts (may_lead (Some x)) _ y.1 in
      let r = and_parts (is_rmi o.class) _ l.1 in
      let m = and_parts (not (are_inline a o)) _ r.1 in
      record { adding = only_adds (or_parts (adds p) (joins_bits p && false) y.0); to = (and_parts (is_rm d) _ m.1).0; second = r.0 }
    where
      only_adds : (adds p ≡ true) ⊎ ((joins_bits p && false) ≡ true) → adds p ≡ true
      only_adds (inl t) = t
      only_adds (inr t) = absurd (false≢true (and_parts (joins_bits p) false t).1)

  product_row : (p : BinOp) (a b : Operand) → wide_product_row (B (values.Two p a b)) ≡ true → IsProductRow x d p a b
  product_row p a b h =
      let y = and_parts (multiplies p) _ h in
      let k = and_parts (is_pinned x) _ y.1 in
      let l = and_parts (is_long (product_size None x d a b)) _ k.1 in
      let m = and_parts (is_rmi a.class) _ l.1 in
      record { multiplying = y.0; long = l.0; first = m.0; second = (and_parts (is_rm b.class) _ m.1).0 }

  carry_row : (p : BinOp) (a o : Operand) → carrying_row (B (values.Carry p a o)) ≡ true → (is_rm d ≡ true) × (is_rmi o.class ≡ true)
  carry_row p a o h =
      let l = and_parts (may_lead (Some x)) _ h in
      let r = and_parts (is_rmi o.class) _ l.1 in
      let m = and_parts (not (are_inline a o)) _ r.1 in
      ((and_parts (is_rm d) _ m.1).0, r.0)

  pub pair_fits : (v : Value) → Matches (B v) → PairFits x d v
  pair_fits values.Alone h = false≢true h
  pair_fits (values.One a) h = false≢true h
  pair_fits (values.Cast z s c) h = false≢true h
  pair_fits (values.Carry p a o) h = next (PairFits x d (values.Carry p a o)) (carrying_row (B (values.Carry p a o))) false (carry_row p a o) (none_more (PairFits x d (values.Carry p a o))) h
  pair_fits (values.Two p a o) h =
      let v : Value = values.Two p a o in
      next (PairFits x d v) (arithmetic_row (B v)) (wide_product_row (B v) || false) (λ t. inl (sum_row p a o t)) (next (PairFits x d v) (wide_product_row (B v)) false (λ t. inr (product_row p a o t)) (none_more (PairFits x d v))) h

-- ---- the operands
-- what a right side of two left sides is
pub data PairRow (x d : Class) (e : Expr) : Type 0 where
  sum : (o : BinOp) (a b : Expr) (at : Span) → out-Expr e ≡ Expr-F.Bin o a b at → adds o ≡ true → is_rm d ≡ true → is_rmi (class_of b) ≡ true → PairRow x d e
  carried : (o p : BinOp) (a b y c : Expr) (at inner : Span) → out-Expr e ≡ Expr-F.Bin o a c at → out-Expr a ≡ Expr-F.Bin p b y inner → carries o p ≡ true → is_rm d ≡ true
      → is_flag (class_of c) ≡ true → is_rmi (class_of y) ≡ true → PairRow x d e
  product : (o : BinOp) (a b : Expr) (at : Span) (u v : Operand) → out-Expr e ≡ Expr-F.Bin o a b at → u.class ≡ class_of a → v.class ≡ class_of b → IsProductRow x d o u v → PairRow x d e

module _ (asked : Asked) (x : Class) (d : Lval) where
  carried_by : (o : BinOp) (e a c : Expr) (at : Span) (l : Layer) → out-Expr e ≡ Expr-F.Bin o a c at → is_flag (class_of c) ≡ true → out-Expr a ≡ l → PairFits x (dest_of d) (carry_layer asked d o l) → PairRow x (dest_of d) e
  carried_by o e a c at (Expr-F.Bin p b y inner) is f k h = by_carries (carries o p) refl h
    where
      by_carries : (t : Bool) → carries o p ≡ t → PairFits x (dest_of d) (if t then values.Carry o (beside asked d (Some b) b) (beside asked d (Some b) y) else values.Alone) → PairRow x (dest_of d) e
      by_carries true g h = carried o p a b y c at inner is k g h.0 f h.1
      by_carries false g h = absurd h
  carried_by o e a c at (Expr-F.Num n i) is f k h = absurd h
  carried_by o e a c at (Expr-F.Expr::Bool b i) is f k h = absurd h
  carried_by o e a c at (Expr-F.Var v) is f k h = absurd h
  carried_by o e a c at (Expr-F.Cell v i) is f k h = absurd h
  carried_by o e a c at (Expr-F.Load m) is f k h = absurd h
  carried_by o e a c at (Expr-F.Neg b i) is f k h = absurd h
  carried_by o e a c at (Expr-F.Not b i) is f k h = absurd h
  carried_by o e a c at (Expr-F.Cast z s b i) is f k h = absurd h

  bin_by : (t : Bool) (o : BinOp) (e a b : Expr) (at : Span) → out-Expr e ≡ Expr-F.Bin o a b at → is_flag (class_of b) ≡ t
      → PairFits x (dest_of d) (if t then carry_layer asked d o (out-Expr a) else values.Two o (beside asked d (first_of o a) a) (beside asked d (first_of o a) b)) → PairRow x (dest_of d) e
  bin_by true o e a b at is f h = carried_by o e a b at (out-Expr a) is f refl h
  bin_by false o e a b at is f (inl h) = sum o a b at is h.adding h.to h.second
  bin_by false o e a b at is f (inr h) = product o a b at (beside asked d (first_of o a) a) (beside asked d (first_of o a) b) is refl refl h

  layer_row : (e : Expr) (l : Layer) → out-Expr e ≡ l → PairFits x (dest_of d) (value_layer asked d l) → PairRow x (dest_of d) e
  layer_row e (Expr-F.Bin o a b at) is h = bin_by (is_flag (class_of b)) o e a b at is refl h
  layer_row e (Expr-F.Num n i) is h = absurd h
  layer_row e (Expr-F.Expr::Bool b i) is h = absurd h
  layer_row e (Expr-F.Var v) is h = absurd h
  layer_row e (Expr-F.Cell v i) is h = absurd h
  layer_row e (Expr-F.Load m) is h = absurd h
  layer_row e (Expr-F.Neg b i) is h = absurd h
  layer_row e (Expr-F.Not b i) is h = absurd h
  layer_row e (Expr-F.Cast z s b i) is h = absurd h

  -- `x, d = e`
  pub value_row : (e : Expr) → Matches (assign_of asked (Some x) d None e) → PairRow x (dest_of d) e
  value_row e h = layer_row e (out-Expr e) refl (pair_fits x (dest_of d) (class_of e) (value_layer asked d (out-Expr e)) h)

-- what the right side of `x, d op= e` is
pub data UpdateRow (x d : Class) (o : BinOp) (e : Expr) : Type 0 where
  update_sum : adds o ≡ true → is_rm d ≡ true → is_rmi (class_of e) ≡ true → UpdateRow x d o e
  update_carried : (p : BinOp) (a c : Expr) (at : Span) → out-Expr e ≡ Expr-F.Bin p a c at → carries o p ≡ true → is_rm d ≡ true → UpdateRow x d o e
  update_product : multiplies o ≡ true → is_rmi d ≡ true → is_rm (class_of e) ≡ true → UpdateRow x d o e

module _ (asked : Asked) (x : Class) (d : Lval) where
  two_by : (o : BinOp) (e : Expr) → PairFits x (dest_of d) (values.Two o (itself d) (beside asked d None e)) → UpdateRow x (dest_of d) o e
  two_by o e (inl h) = update_sum h.adding h.to h.second
  two_by o e (inr h) = update_product h.multiplying h.first h.second

  update_bin : (t : Bool) (o p : BinOp) (e a c : Expr) (at : Span) → out-Expr e ≡ Expr-F.Bin p a c at → (carries o p && is_flag (class_of c)) ≡ t
      → PairFits x (dest_of d) (if t then values.Carry o (itself d) (beside asked d None a) else values.Two o (itself d) (beside asked d None e)) → UpdateRow x (dest_of d) o e
  update_bin true o p e a c at is g h = update_carried p a c at is (and_parts (carries o p) (is_flag (class_of c)) g).0 h.0
  update_bin false o p e a c at is g h = two_by o e h

  update_by : (o : BinOp) (e : Expr) (l : Layer) → out-Expr e ≡ l → PairFits x (dest_of d) (update_layer asked d o e l) → UpdateRow x (dest_of d) o e
  update_by o e (Expr-F.Bin p a c at) is h = update_bin (carries o p && is_flag (class_of c)) o p e a c at is refl h
  update_by o e (Expr-F.Num n i) is h = two_by o e h
  update_by o e (Expr-F.Expr::Bool b i) is h = two_by o e h
  update_by o e (Expr-F.Var v) is h = two_by o e h
  update_by o e (Expr-F.Cell v i) is h = two_by o e h
  update_by o e (Expr-F.Load m) is h = two_by o e h
  update_by o e (Expr-F.Neg b i) is h = two_by o e h
  update_by o e (Expr-F.Not b i) is h = two_by o e h
  update_by o e (Expr-F.Cast z s b i) is h = two_by o e h

  pub update_row : (o : BinOp) (e : Expr) → Matches (assign_of asked (Some x) d (Some o) e) → UpdateRow x (dest_of d) o e
  update_row o e h = update_by o e (out-Expr e) refl (pair_fits x (dest_of d) class.Other (update_layer asked d o e (out-Expr e)) h)

-- ---- `_ op= e`
module _ (asked : Asked) (at : Span) where
  abbrev S : Lval
  S = lval.Skip at

  skip_bin : (t : Bool) (o p : BinOp) (e a : Expr) → Matches (shapes.Assign None class.Skip class.Other (if t then values.Carry o (itself S) (beside asked S None a) else values.Two o (itself S) (beside asked S None e))) → ⊥
  skip_bin true o p e a h = skip_carry class.Other o (itself S) (beside asked S None a) h
  skip_bin false o p e a h = skip_two class.Other o (itself S) (beside asked S None e) h

  skip_by : (o : BinOp) (e : Expr) (l : Layer) → Matches (shapes.Assign None class.Skip class.Other (update_layer asked S o e l)) → ⊥
  skip_by o e (Expr-F.Bin p a c i) h = skip_bin (carries o p && is_flag (class_of c)) o p e a h
  skip_by o e (Expr-F.Num n i) h = skip_two class.Other o (itself S) (beside asked S None e) h
  skip_by o e (Expr-F.Expr::Bool b i) h = skip_two class.Other o (itself S) (beside asked S None e) h
  skip_by o e (Expr-F.Var v) h = skip_two class.Other o (itself S) (beside asked S None e) h
  skip_by o e (Expr-F.Cell v i) h = skip_two class.Other o (itself S) (beside asked S None e) h
  skip_by o e (Expr-F.Load m) h = skip_two class.Other o (itself S) (beside asked S None e) h
  skip_by o e (Expr-F.Neg b i) h = skip_two class.Other o (itself S) (beside asked S None e) h
  skip_by o e (Expr-F.Not b i) h = skip_two class.Other o (itself S) (beside asked S None e) h
  skip_by o e (Expr-F.Cast z s b i) h = skip_two class.Other o (itself S) (beside asked S None e) h

  pub no_skip : (o : BinOp) (e : Expr) → Matches (assign_of asked None S (Some o) e) → ⊥
  no_skip o e h = skip_by o e (out-Expr e) h

  -- behind another left side: its place is no register and no memory
  pub no_skip_behind : (x : Class) (o : BinOp) (e : Expr) → Matches (assign_of asked (Some x) S (Some o) e) → ⊥
  no_skip_behind x o e h = by_row (update_row asked x S o e h)
    where
      by_row : UpdateRow x class.Skip o e → ⊥
      by_row (update_sum a r s) = false≢true r
      by_row (update_carried p a c i is g r) = false≢true r
      by_row (update_product m r s) = false≢true r
