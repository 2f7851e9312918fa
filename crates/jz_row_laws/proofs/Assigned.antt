-- The rows of assignments, with or without what leads.
use Rattle.std.proofs.Common.{◌≡◌, Bool, true, false, not, ◌&&◌, ◌||◌, List, [], ◌∷◌, Option, Some, None, flat_map, refl, sym, subst, inl, inr, if◌then◌else◌}
use Rattle.std.specs.Prelude.{◌⊎◌, All}
use Rattle.std.proofs.lemmas.Bool.{and_parts, false≢true}
use Rattle.std.proofs.lemmas.List.Elements.{All-nil, All-cons, All-head, All-tail, All-append}
use Rattle.jz_tree.specs.Operators.{carries, divides, is_shift, joins}
use Rattle.jz_tree.specs.Span.{Span}
use Rattle.jz_tree.specs.Size.{Size}
use Rattle.jz_tree.specs.declared.expr.BinOp.{BinOp}
use Rattle.jz_tree.specs.declared.expr.BinOp.TheVariants as op
use Rattle.jz_tree.specs.declared.expr.Expr.{Expr}
use Rattle.jz_tree.specs.declared.expr.Expr.TheOpen.{Expr-F}
use Rattle.jz_tree.specs.declared.expr.Expr.TheViews.{out-Expr, out-Access}
use Rattle.jz_tree.specs.declared.expr.Var.{Var}
use Rattle.jz_tree.specs.declared.stmt.Lval.{Lval}
use Rattle.jz_tree.specs.declared.stmt.Lval.TheVariants as lval
use Rattle.jz_type_names.specs.Kinds.{known_of}
use Rattle.jz_type_names.specs.Parts.{left_exprs}
use Rattle.jz_select.specs.declared.class.Class.{Class}
use Rattle.jz_select.specs.declared.class.Class.TheVariants as class
use Rattle.jz_select.specs.declared.class.Operand.{Operand}
use Rattle.jz_select.specs.declared.shape.Value.{Value}
use Rattle.jz_select.specs.declared.shape.Value.TheVariants as values
use Rattle.jz_select.specs.declared.shape.Shape as rowed
use Rattle.jz_select.specs.declared.shape.Shape.TheVariants as shapes
use Rattle.jz_select.specs.Sums.{is_address, is_index}
use Rattle.jz_select.specs.Look.{look_of, terms_of}
use Rattle.jz_select.specs.Operands.{cell_of, class_of, dest_of}
use Rattle.jz_select.specs.Rows.{is_r, is_i, is_rm, is_rmi, is_flag, is_skip, is_flag_result, is_pinned, may_lead, is_alone, adds, joins_bits, multiplies, masks, copy_row, arithmetic_row, carrying_row, unary_row, times_row, times_inline_row, wide_product_row, quotient_row, inline_shift_row, masked_shift_row, zero_extension_row, sign_extension_row, truncation_row}
use Rattle.jz_select.specs.Shapes.{Asked, itself, beside, value_layer, update_layer, assign_of, value_shape}
use Rattle.jz_meaning.specs.Shapes.{Sorts}
use Rattle.jz_row_laws.proofs.Booleans.{or_left, or_right, or_parts}
use Rattle.jz_row_laws.proofs.Fixed.{Layer, HasClass, no_if, no_cell, Fixed, FixedLayer, fixed_out, both_fixed, class_fixed, cell_fixed, mem_fixed}
use Rattle.jz_row_laws.proofs.Copied.{Matches, no_free, Fit, rm_class, i_class, r_class, masks_mask, product_join, quotient_join, shift_join, carry_join, operand_fixed, flag_fixed, layer_fixed}

-- ---- left sides
-- a register, memory, inline, a flag or `_`
abbrev pub fine : Class → Bool
fine c = is_rmi c || (is_flag c || is_skip c)

abbrev pub FineLeft : Lval → Type 0
FineLeft d = fine (dest_of d) ≡ true

abbrev pub FineLead : Option Class → Type 0
FineLead None = Unit {0}
FineLead (Some c) = fine c ≡ true

pub fine_class : (c : Class) → HasClass c → fine c ≡ true
fine_class c h = or_left (is_rmi c) (is_flag c || is_skip c) h

pub fine_result : (c : Class) → is_flag_result c ≡ true → fine c ≡ true
fine_result c h = or_right (is_rmi c) (is_flag c || is_skip c) h

pub fine_pinned : (c : Class) → is_pinned c ≡ true → fine c ≡ true
fine_pinned c h = by_part (or_parts (is_r c) (is_skip c) h)
  where
    by_part : (is_r c ≡ true) ⊎ (is_skip c ≡ true) → fine c ≡ true
    by_part (inl t) = fine_class c (r_class c t)
    by_part (inr t) = or_right (is_rmi c) (is_flag c || is_skip c) (or_right (is_flag c) (is_skip c) t)

fine_lead : (lead : Option Class) → may_lead lead ≡ true → FineLead lead
fine_lead None h = tt
fine_lead (Some c) h = fine_result c h

abbrev is_bare : Class → Bool
is_bare c = is_flag c || is_skip c

module _ (sorts : Sorts) where
  abbrev AllFixed : List Expr → Type 0
  AllFixed es = All (Fixed sorts) es

  pub one_fixed : (e : Expr) → Fixed sorts e → AllFixed (e ∷ [])
  one_fixed e h = All-cons (Fixed sorts) e [] h (All-nil (Fixed sorts))

  cell_left : (v : Var) (i : Expr) → (HasClass (cell_of v i)) ⊎ (is_bare (cell_of v i) ≡ true) → Fixed sorts i
  cell_left v i (inl h) = cell_fixed sorts v i h
  cell_left v i (inr h) = absurd (no_cell is_bare (λ z. refl) (λ z. refl) refl (known_of v) (look_of i).inline (is_index (terms_of i)) h)

  memory_left : (z : Option Size) (at : Expr) (c : Class) → (HasClass c → Fixed sorts at) → (is_bare c ≡ true → ⊥) → (HasClass c) ⊎ (is_bare c ≡ true) → Fixed sorts at
  memory_left z at c f g (inl h) = f h
  memory_left z at c f g (inr h) = absurd (g h)

  pub left_fixed : (d : Lval) → FineLeft d → AllFixed (left_exprs d)
  left_fixed (lval.Skip at) h = All-nil (Fixed sorts)
  left_fixed (lval.Var v) h = All-nil (Fixed sorts)
  left_fixed (lval.Cell v i) h = one_fixed i (cell_left v i (or_parts (is_rmi (cell_of v i)) (is_bare (cell_of v i)) h))
  left_fixed (lval.Store a) h =
      let c = dest_of (lval.Store a) in
      one_fixed (out-Access a).at
      (memory_left (out-Access a).size (out-Access a).at c (mem_fixed sorts (out-Access a).size (out-Access a).at)
      (λ g. no_if is_bare refl (is_address (terms_of (out-Access a).at)) (class.Mem (out-Access a).size) refl g)
      (or_parts (is_rmi c) (is_bare c) h))

  pub lefts_fixed : (to : List Lval) → All FineLeft to → AllFixed (flat_map left_exprs to)
  lefts_fixed [] h = All-nil (Fixed sorts)
  lefts_fixed (d ∷ ds) h = All-append (Fixed sorts) (left_exprs d) (flat_map left_exprs ds) (left_fixed d (All-head FineLeft d ds h)) (lefts_fixed ds (All-tail FineLeft d ds h))

-- ---- rows
abbrev Fits : Option Class → Class → Class → Value → Type 0
Fits lead d w v = Fit w v × ((fine d ≡ true) × FineLead lead)

sum_join : (p : BinOp) (c : Bool) → (adds p || (joins_bits p && c)) ≡ true → joins p ≡ false
sum_join op.AndThen c e = absurd (false≢true e)
sum_join op.OrElse c e = absurd (false≢true e)
sum_join p c e = refl

module _ (lead : Option Class) (d w : Class) where
  abbrev S : Value → rowed.Shape
  S v = shapes.Assign lead d w v

  rm_fine : is_rm d ≡ true → fine d ≡ true
  rm_fine h = fine_class d (rm_class d h)

  r_fine : is_r d ≡ true → fine d ≡ true
  r_fine h = fine_class d (r_class d h)

  by_arithmetic : (p : BinOp) (a o : Operand) → arithmetic_row (S (values.Two p a o)) ≡ true → Fits lead d w (values.Two p a o)
  by_arithmetic p a o h =
      let x = and_parts (adds p || (joins_bits p && is_alone lead)) _ h in
      let l = and_parts (may_lead lead) _ x.1 in
      let y = and_parts (is_rmi o.class) _ l.1 in
      let z = and_parts _ _ y.1 in
      let m = and_parts (is_rm d) _ z.1 in
      (inr (sum_join p (is_alone lead) x.0, (and_parts (is_rmi a.class) _ m.1).0, inl y.0), (rm_fine m.0, fine_lead lead l.0))

  by_carrying : (p : BinOp) (a o : Operand) → carrying_row (S (values.Carry p a o)) ≡ true → Fits lead d w (values.Carry p a o)
  by_carrying p a o h =
      let l = and_parts (may_lead lead) _ h in
      let y = and_parts (is_rmi o.class) _ l.1 in
      let z = and_parts _ _ y.1 in
      let m = and_parts (is_rm d) _ z.1 in
      (inr ((and_parts (is_rmi a.class) _ m.1).0, y.0), (rm_fine m.0, fine_lead lead l.0))

next : (P : Type 0) (row rest : Bool) → (row ≡ true → P) → (rest ≡ true → P) → (row || rest) ≡ true → P
next P row rest f g h = by_part (or_parts row rest h)
  where
    by_part : (row ≡ true) ⊎ (rest ≡ true) → P
    by_part (inl t) = f t
    by_part (inr t) = g t

none_more : (P : Type 0) → false ≡ true → P
none_more P e = absurd (false≢true e)

-- ---- alone
module _ (d w : Class) where
  abbrev A : Value → rowed.Shape
  A v = shapes.Assign None d w v

  abbrev G : Value → Type 0
  G v = Fits None d w v

  by_copy : (v : Value) → (HasClass w → Fit w v) → copy_row (A v) ≡ true → G v
  by_copy v f h =
      let x = and_parts (is_rm d) _ h in
      (f (and_parts (is_rmi w) _ x.1).0, (fine_class d (rm_class d x.0), tt))

  by_unary : (a : Operand) → unary_row (A (values.One a)) ≡ true → G (values.One a)
  by_unary a h = let x = and_parts (is_rm d) _ h in (inr (and_parts (is_rmi a.class) _ x.1).0, (fine_class d (rm_class d x.0), tt))

  by_times : (p : BinOp) (a o : Operand) → times_row (A (values.Two p a o)) ≡ true → G (values.Two p a o)
  by_times p a o h =
      let x = and_parts (multiplies p) _ h in
      let r = and_parts (is_r d) _ x.1 in
      let z = and_parts (is_rm o.class) _ (and_parts _ _ r.1).1 in
      let m = and_parts (is_rm d) _ z.1 in
      (inr (product_join p x.0, (and_parts (is_rmi a.class) _ m.1).0, inl (rm_class o.class z.0)), (fine_class d (r_class d r.0), tt))

  by_times_inline : (p : BinOp) (a o : Operand) → times_inline_row (A (values.Two p a o)) ≡ true → G (values.Two p a o)
  by_times_inline p a o h =
      let x = and_parts (multiplies p) _ h in
      let r = and_parts (is_r d) _ x.1 in
      let z = and_parts (is_rm a.class) (is_i o.class) (and_parts _ _ r.1).1 in
      (inr (product_join p x.0, rm_class a.class z.0, inl (i_class o.class z.1)), (fine_class d (r_class d r.0), tt))

  by_quotient : (p : BinOp) (a o : Operand) → quotient_row (A (values.Two p a o)) ≡ true → G (values.Two p a o)
  by_quotient p a o h =
      let x = and_parts (divides p) _ h in
      let r = and_parts (is_r d) _ x.1 in
      let z = and_parts (is_rmi a.class) _ (and_parts _ _ r.1).1 in
      (inr (quotient_join p x.0, z.0, inl (rm_class o.class (and_parts (is_rm o.class) _ z.1).0)), (fine_class d (r_class d r.0), tt))

  by_inline_shift : (p : BinOp) (a o : Operand) → inline_shift_row (A (values.Two p a o)) ≡ true → G (values.Two p a o)
  by_inline_shift p a o h =
      let x = and_parts (is_shift p) _ h in
      let y = and_parts (is_i o.class) _ x.1 in
      let m = and_parts (is_rm d) _ y.1 in
      (inr (shift_join p x.0, (and_parts (is_rmi a.class) _ m.1).0, inl (i_class o.class y.0)), (fine_class d (rm_class d m.0), tt))

  by_masked_shift : (p : BinOp) (a o : Operand) → masked_shift_row (A (values.Two p a o)) ≡ true → G (values.Two p a o)
  by_masked_shift p a o h =
      let x = and_parts (is_shift p) _ h in
      let y = and_parts (masks _ o.class) _ x.1 in
      let m = and_parts (is_rm d) _ y.1 in
      (inr (shift_join p x.0, (and_parts (is_rmi a.class) _ m.1).0, inr (masks_mask _ o.class y.0)), (fine_class d (rm_class d m.0), tt))

  by_zero_extension : (z : Size) (s : Bool) (c : Class) → zero_extension_row (A (values.Cast z s c)) ≡ true → G (values.Cast z s c)
  by_zero_extension z s c h =
      let r = and_parts (is_r d) _ (and_parts (not s) _ h).1 in
      (inr (rm_class c (and_parts (is_rm c) _ r.1).0), (fine_class d (r_class d r.0), tt))

  by_sign_extension : (z : Size) (s : Bool) (c : Class) → sign_extension_row (A (values.Cast z s c)) ≡ true → G (values.Cast z s c)
  by_sign_extension z s c h =
      let r = and_parts (is_r d) _ (and_parts s _ h).1 in
      (inr (rm_class c (and_parts (is_rm c) _ r.1).0), (fine_class d (r_class d r.0), tt))

  by_truncation : (z : Size) (s : Bool) (c : Class) → truncation_row (A (values.Cast z s c)) ≡ true → G (values.Cast z s c)
  by_truncation z s c h =
      let r = and_parts (is_r d) _ (and_parts (not s) _ h).1 in
      (inr (r_class c (and_parts (is_r c) _ r.1).0), (fine_class d (r_class d r.0), tt))

  fits_alone : (v : Value) → Matches (A v) → G v
  fits_alone values.Alone h = let v = values.Alone in next (G v) (copy_row (A v)) false (by_copy v (λ k. k)) (none_more (G v)) h
  fits_alone (values.One a) h =
      let v : Value = values.One a in
      next (G v) (copy_row (A v)) (unary_row (A v) || false) (by_copy v inl) (next (G v) (unary_row (A v)) false (by_unary a) (none_more (G v))) h
  fits_alone (values.Two p a o) h =
      let v : Value = values.Two p a o in
      next (G v) (copy_row (A v)) (arithmetic_row (A v) || (times_row (A v) || (times_inline_row (A v) || (quotient_row (A v) || (inline_shift_row (A v) || (masked_shift_row (A v) || false)))))) (by_copy v inl)
      (next (G v) (arithmetic_row (A v)) (times_row (A v) || (times_inline_row (A v) || (quotient_row (A v) || (inline_shift_row (A v) || (masked_shift_row (A v) || false))))) (by_arithmetic None d w p a o)
      (next (G v) (times_row (A v)) (times_inline_row (A v) || (quotient_row (A v) || (inline_shift_row (A v) || (masked_shift_row (A v) || false)))) (by_times p a o)
      (next (G v) (times_inline_row (A v)) (quotient_row (A v) || (inline_shift_row (A v) || (masked_shift_row (A v) || false))) (by_times_inline p a o)
      (next (G v) (quotient_row (A v)) (inline_shift_row (A v) || (masked_shift_row (A v) || false)) (by_quotient p a o)
      (next (G v) (inline_shift_row (A v)) (masked_shift_row (A v) || false) (by_inline_shift p a o)
      (next (G v) (masked_shift_row (A v)) false (by_masked_shift p a o) (none_more (G v))))))))
      h
  fits_alone (values.Carry p a o) h =
      let v : Value = values.Carry p a o in
      next (G v) (copy_row (A v)) (carrying_row (A v) || false) (by_copy v inl) (next (G v) (carrying_row (A v)) false (by_carrying None d w p a o) (none_more (G v))) h
  fits_alone (values.Cast z s c) h =
      let v : Value = values.Cast z s c in
      next (G v) (copy_row (A v)) (zero_extension_row (A v) || (sign_extension_row (A v) || (truncation_row (A v) || false))) (by_copy v inl)
      (next (G v) (zero_extension_row (A v)) (sign_extension_row (A v) || (truncation_row (A v) || false)) (by_zero_extension z s c)
      (next (G v) (sign_extension_row (A v)) (truncation_row (A v) || false) (by_sign_extension z s c)
      (next (G v) (truncation_row (A v)) false (by_truncation z s c) (none_more (G v)))))
      h

-- ---- behind a flag or the high word
module _ (x d w : Class) where
  abbrev B : Value → rowed.Shape
  B v = shapes.Assign (Some x) d w v

  abbrev J : Value → Type 0
  J v = Fits (Some x) d w v

  low_fine : (r s : Bool) → (r ≡ true → fine d ≡ true) → is_skip d ≡ s → (s || r) ≡ true → fine d ≡ true
  low_fine r true f e h = or_right (is_rmi d) (is_flag d || is_skip d) (or_right (is_flag d) (is_skip d) e)
  low_fine r false f e h = f h

  by_wide_product : (p : BinOp) (a b : Operand) → wide_product_row (B (values.Two p a b)) ≡ true → J (values.Two p a b)
  by_wide_product p a b h =
      let y = and_parts (multiplies p) _ h in
      let k = and_parts (is_pinned x) _ y.1 in
      let m = and_parts (is_rmi a.class) _ (and_parts _ _ k.1).1 in
      let n = and_parts (is_rm b.class) _ m.1 in (
        inr (product_join p y.0, m.0, inl (rm_class b.class n.0)),
        (low_fine _ (is_skip d) (λ t. fine_class d (r_class d (and_parts (is_r d) _ t).0)) refl n.1, fine_pinned x k.0),
      )

  fits_behind : (v : Value) → Matches (B v) → J v
  fits_behind values.Alone h = absurd (false≢true h)
  fits_behind (values.One a) h = absurd (false≢true h)
  fits_behind (values.Cast z s c) h = absurd (false≢true h)
  fits_behind (values.Carry p a o) h = let v : Value = values.Carry p a o in next (J v) (carrying_row (B v)) false (by_carrying (Some x) d w p a o) (none_more (J v)) h
  fits_behind (values.Two p a o) h =
      let v : Value = values.Two p a o in
      next (J v) (arithmetic_row (B v)) (wide_product_row (B v) || false) (by_arithmetic (Some x) d w p a o) (next (J v) (wide_product_row (B v)) false (by_wide_product p a o) (none_more (J v))) h

-- ---- the expressions
module _ (sorts : Sorts) (asked : Asked) where
  no_other : HasClass class.Other → ⊥
  no_other h = false≢true h

  updated_by : (d : Lval) (o p : BinOp) (e a b : Expr) (at : Span) (c : Bool) → out-Expr e ≡ Expr-F.Bin p a b at → (carries o p && is_flag (class_of b)) ≡ c
      → Fit class.Other (if c then values.Carry o (itself d) (beside asked d None a) else values.Two o (itself d) (beside asked d None e)) → Fixed sorts e
  updated_by d o p e a b at true is g (inl h) = absurd (no_other h)
  updated_by d o p e a b at true is g (inr h) =
      let t = and_parts (carries o p) (is_flag (class_of b)) g in
      fixed_out sorts e (subst (FixedLayer sorts) (sym is) (both_fixed sorts p a b at (carry_join o p t.0).1 (class_fixed sorts a h.1) (flag_fixed sorts b t.1)))
  updated_by d o p e a b at false is g (inl h) = absurd (no_other h)
  updated_by d o p e a b at false is g (inr h) = operand_fixed sorts e h.2

  only_two : (d : Lval) (o : BinOp) (e : Expr) → Fit class.Other (values.Two o (itself d) (beside asked d None e)) → Fixed sorts e
  only_two d o e (inl h) = absurd (no_other h)
  only_two d o e (inr h) = operand_fixed sorts e h.2

  updated_fixed : (d : Lval) (o : BinOp) (e : Expr) (x : Layer) → out-Expr e ≡ x → Fit class.Other (update_layer asked d o e x) → Fixed sorts e
  updated_fixed d o e (Expr-F.Bin p a b at) is h = updated_by d o p e a b at (carries o p && is_flag (class_of b)) is refl h
  updated_fixed d o e (Expr-F.Num n at) is h = only_two d o e h
  updated_fixed d o e (Expr-F.Expr::Bool b at) is h = only_two d o e h
  updated_fixed d o e (Expr-F.Var v) is h = only_two d o e h
  updated_fixed d o e (Expr-F.Cell v i) is h = only_two d o e h
  updated_fixed d o e (Expr-F.Load a) is h = only_two d o e h
  updated_fixed d o e (Expr-F.Neg a at) is h = only_two d o e h
  updated_fixed d o e (Expr-F.Not a at) is h = only_two d o e h
  updated_fixed d o e (Expr-F.Cast z s a at) is h = only_two d o e h

  -- what is assigned, and what stands in the left sides
  one_value : (d : Lval) (o : Option BinOp) (e : Expr) → Matches (assign_of asked None d o e) → Fixed sorts e × FineLeft d
  one_value d None e h =
      let f = fits_alone (dest_of d) (class_of e) (value_layer asked d (out-Expr e)) h in
      (fixed_out sorts e (layer_fixed sorts asked d (out-Expr e) f.0), f.1.0)
  one_value d (Some o) e h =
      let f = fits_alone (dest_of d) class.Other (update_layer asked d o e (out-Expr e)) h in
      (updated_fixed d o e (out-Expr e) refl f.0, f.1.0)

  two_values : (x d : Lval) (o : Option BinOp) (e : Expr) → Matches (assign_of asked (Some (dest_of x)) d o e) → Fixed sorts e × (FineLeft d × FineLeft x)
  two_values x d None e h =
      let f = fits_behind (dest_of x) (dest_of d) (class_of e) (value_layer asked d (out-Expr e)) h in
      (fixed_out sorts e (layer_fixed sorts asked d (out-Expr e) f.0), f.1)
  two_values x d (Some o) e h =
      let f = fits_behind (dest_of x) (dest_of d) class.Other (update_layer asked d o e (out-Expr e)) h in
      (updated_fixed d o e (out-Expr e) refl f.0, f.1)

  pub value_fixed : (to : List Lval) (o : Option BinOp) (e : Expr) → Matches (value_shape asked to o e) → Fixed sorts e × All FineLeft to
  value_fixed [] o e h = absurd (no_free h)
  value_fixed (d ∷ []) o e h = let t = one_value d o e h in (t.0, All-cons FineLeft d [] t.1 (All-nil FineLeft))
  value_fixed (x ∷ d ∷ []) o e h =
      let t = two_values x d o e h in
      (t.0, All-cons FineLeft x (d ∷ []) t.1.1 (All-cons FineLeft d [] t.1.0 (All-nil FineLeft)))
  value_fixed (x ∷ y ∷ d ∷ ds) o e h = absurd (no_free h)
