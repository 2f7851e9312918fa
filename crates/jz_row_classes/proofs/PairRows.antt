-- What the rows of the pattern table ask of two left sides and of the operands of their value.
use Rattle.std.proofs.Common.{◌≡◌, Bool, true, false, not, ◌&&◌, ◌||◌, Some, None, refl, inl, inr, if◌then◌else◌}
use Rattle.std.specs.Prelude.{◌⊎◌}
use Rattle.std.proofs.lemmas.Bool.{false≢true, and_parts}
use Rattle.jz_tree.specs.Operators.{carries}
use Rattle.jz_tree.specs.Span.{Span}
use Rattle.jz_tree.specs.declared.expr.BinOp.{BinOp}
use Rattle.jz_tree.specs.declared.expr.Expr.{Expr}
use Rattle.jz_tree.specs.declared.expr.Expr.TheOpen.{Expr-F}
use Rattle.jz_tree.specs.declared.expr.Expr.TheViews.{out-Expr}
use Rattle.jz_tree.specs.declared.stmt.Lval.{Lval}
use Rattle.jz_select.specs.declared.class.Class.{Class}
use Rattle.jz_select.specs.declared.class.Operand.{Operand}
use Rattle.jz_select.specs.declared.shape.Value.{Value}
use Rattle.jz_select.specs.declared.shape.Value.TheVariants as values
use Rattle.jz_select.specs.declared.shape.Shape as rowed
use Rattle.jz_select.specs.declared.shape.Shape.TheVariants as shapes
use Rattle.jz_select.specs.Operands.{class_of, dest_of}
use Rattle.jz_select.specs.Rows.{is_r, is_rm, is_rmi, is_skip, is_flag, is_flag_result, is_pinned, is_long, may_lead, are_inline, adds, joins_bits, multiplies, computes, product_size, arithmetic_row, carrying_row, wide_product_row}
use Rattle.jz_select.specs.Shapes.{Asked, beside, first_of, carry_layer, value_layer, assign_of}
use Rattle.jz_judgement.specs.HasType.{Layer}
use Rattle.jz_row_laws.proofs.Booleans.{or_left, or_right, or_parts}
use Rattle.jz_row_laws.proofs.Copied.{Matches, rm_class}
use Rattle.jz_row_classes.specs.RowClasses.{IsSumRow, IsProductRow, PairFits}

next : (P : Type 0) (row rest : Bool) → (row ≡ true → P) → (rest ≡ true → P) → (row || rest) ≡ true → P
next P row rest f g h = by_part (or_parts row rest h)
  where
    by_part : (row ≡ true) ⊎ (rest ≡ true) → P
    by_part (inl t) = f t
    by_part (inr t) = g t

none_more : (P : Type 0) → false ≡ true → P
none_more P e = absurd (false≢true e)

denied : (b : Bool) → not b ≡ true → b ≡ false
denied true h = absurd (false≢true h)
denied false h = refl

module _ (x d w : Class) where
  abbrev B : Value → rowed.Shape
  B v = shapes.Assign (Some x) d w v

  sums_row : (s : Bool) (a o : Operand) → (may_lead (Some x) && (is_rmi o.class && (not (are_inline a o) && computes s d a o))) ≡ true → IsSumRow x d a o
  sums_row s a o h =
      let l = and_parts (may_lead (Some x)) _ h in
      let r = and_parts (is_rmi o.class) _ l.1 in
      let m = and_parts (not (are_inline a o)) _ r.1 in
      let n = and_parts (is_rm d) _ m.1 in
      record { lead = l.0; to = n.0; first = (and_parts (is_rmi a.class) _ n.1).0; second = r.0; apart = denied (are_inline a o) m.0 }

  sum_row : (p : BinOp) (a o : Operand) → arithmetic_row (B (values.Two p a o)) ≡ true → (adds p ≡ true) × IsSumRow x d a o
  sum_row p a o h =
      let y = and_parts (adds p || (joins_bits p && false)) _ h in
      (only_adds (or_parts (adds p) (joins_bits p && false) y.0), sums_row _ a o y.1)
    where
      only_adds : (adds p ≡ true) ⊎ ((joins_bits p && false) ≡ true) → adds p ≡ true
      only_adds (inl t) = t
      only_adds (inr t) = absurd (false≢true (and_parts (joins_bits p) false t).1)

  low_word : (r : Bool) → (is_skip d || (is_r d && r)) ≡ true → is_pinned d ≡ true
  low_word r h = by_part (or_parts (is_skip d) (is_r d && r) h)
    where
      by_part : (is_skip d ≡ true) ⊎ ((is_r d && r) ≡ true) → is_pinned d ≡ true
      by_part (inl t) = or_right (is_r d) (is_skip d) t
      by_part (inr t) = or_left (is_r d) (is_skip d) (and_parts (is_r d) r t).0

  product_row : (p : BinOp) (a b : Operand) → wide_product_row (B (values.Two p a b)) ≡ true → IsProductRow x d p a b
  product_row p a b h =
      let y = and_parts (multiplies p) _ h in
      let k = and_parts (is_pinned x) _ y.1 in
      let l = and_parts (is_long (product_size None x d a b)) _ k.1 in
      let m = and_parts (is_rmi a.class) _ l.1 in
      let n = and_parts (is_rm b.class) _ m.1 in
      record { multiplying = y.0; high = k.0; low = low_word _ n.1; long = l.0; first = m.0; second = rm_class b.class n.0; read = n.0 }

  carry_row : (p : BinOp) (a o : Operand) → carrying_row (B (values.Carry p a o)) ≡ true → IsSumRow x d a o
  carry_row p a o h = sums_row _ a o h

  pub pair_fits : (v : Value) → Matches (B v) → PairFits x d v
  pair_fits values.Alone h = false≢true h
  pair_fits (values.One a) h = false≢true h
  pair_fits (values.Cast z s c) h = false≢true h
  pair_fits (values.Carry p a o) h = next (PairFits x d (values.Carry p a o)) (carrying_row (B (values.Carry p a o))) false (carry_row p a o) (none_more (PairFits x d (values.Carry p a o))) h
  pair_fits (values.Two p a o) h =
      let v : Value = values.Two p a o in
      next (PairFits x d v) (arithmetic_row (B v)) (wide_product_row (B v) || false) (λ t. inl (sum_row p a o t)) (next (PairFits x d v) (wide_product_row (B v)) false (λ t. inr (product_row p a o t)) (none_more (PairFits x d v))) h

-- ---- of `x, d = e`
pub data PairRow (x d : Class) (e : Expr) : Type 0 where
  sum : (o : BinOp) (a b : Expr) (at : Span) → out-Expr e ≡ Expr-F.Bin o a b at → adds o ≡ true → is_flag_result x ≡ true → is_rm d ≡ true → is_rmi (class_of a) ≡ true → is_rmi (class_of b) ≡ true → PairRow x d e
  carried : (o p : BinOp) (a b y c : Expr) (at inner : Span) → out-Expr e ≡ Expr-F.Bin o a c at → out-Expr a ≡ Expr-F.Bin p b y inner → carries o p ≡ true → is_flag_result x ≡ true → is_rm d ≡ true
      → is_flag (class_of c) ≡ true → is_rmi (class_of b) ≡ true → is_rmi (class_of y) ≡ true → PairRow x d e
  product : (o : BinOp) (a b : Expr) (at : Span) (u v : Operand) → out-Expr e ≡ Expr-F.Bin o a b at → u.class ≡ class_of a → v.class ≡ class_of b → IsProductRow x d o u v → PairRow x d e

module _ (asked : Asked) (x : Class) (d : Lval) where
  carried_by : (o : BinOp) (e a c : Expr) (at : Span) (l : Layer) → out-Expr e ≡ Expr-F.Bin o a c at → is_flag (class_of c) ≡ true → out-Expr a ≡ l → PairFits x (dest_of d) (carry_layer asked d o l) → PairRow x (dest_of d) e
  carried_by o e a c at (Expr-F.Bin p b y inner) is f k h = by_carries (carries o p) refl h
    where
      by_carries : (t : Bool) → carries o p ≡ t → PairFits x (dest_of d) (if t then values.Carry o (beside asked d (Some b) b) (beside asked d (Some b) y) else values.Alone) → PairRow x (dest_of d) e
      by_carries true g h = carried o p a b y c at inner is k g h.lead h.to f h.first h.second
      by_carries false g h = absurd h
  carried_by o e a c at (Expr-F.Num n i) is f k h = absurd h
  carried_by o e a c at (Expr-F.Expr::Bool b i) is f k h = absurd h
  carried_by o e a c at (Expr-F.Var v) is f k h = absurd h
  carried_by o e a c at (Expr-F.Cell v i) is f k h = absurd h
  carried_by o e a c at (Expr-F.Load m) is f k h = absurd h
  carried_by o e a c at (Expr-F.Neg b i) is f k h = absurd h
  carried_by o e a c at (Expr-F.Not b i) is f k h = absurd h
  carried_by o e a c at (Expr-F.Cast z s b i) is f k h = absurd h

  bin_by : (t : Bool) (o : BinOp) (e a b : Expr) (at : Span) → out-Expr e ≡ Expr-F.Bin o a b at → is_flag (class_of b) ≡ t
      → PairFits x (dest_of d) (if t then carry_layer asked d o (out-Expr a) else values.Two o (beside asked d (first_of o a) a) (beside asked d (first_of o a) b)) → PairRow x (dest_of d) e
  bin_by true o e a b at is f h = carried_by o e a b at (out-Expr a) is f refl h
  bin_by false o e a b at is f (inl h) = sum o a b at is h.0 h.1.lead h.1.to h.1.first h.1.second
  bin_by false o e a b at is f (inr h) = product o a b at (beside asked d (first_of o a) a) (beside asked d (first_of o a) b) is refl refl h

  pub layer_row : (e : Expr) (l : Layer) → out-Expr e ≡ l → PairFits x (dest_of d) (value_layer asked d l) → PairRow x (dest_of d) e
  layer_row e (Expr-F.Bin o a b at) is h = bin_by (is_flag (class_of b)) o e a b at is refl h
  layer_row e (Expr-F.Num n i) is h = absurd h
  layer_row e (Expr-F.Expr::Bool b i) is h = absurd h
  layer_row e (Expr-F.Var v) is h = absurd h
  layer_row e (Expr-F.Cell v i) is h = absurd h
  layer_row e (Expr-F.Load m) is h = absurd h
  layer_row e (Expr-F.Neg b i) is h = absurd h
  layer_row e (Expr-F.Not b i) is h = absurd h
  layer_row e (Expr-F.Cast z s b i) is h = absurd h

  pub value_row : (e : Expr) → Matches (assign_of asked (Some x) d None e) → PairRow x (dest_of d) e
  value_row e h = layer_row e (out-Expr e) refl (pair_fits x (dest_of d) (class_of e) (value_layer asked d (out-Expr e)) h)
