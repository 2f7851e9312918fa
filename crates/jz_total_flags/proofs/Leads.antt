-- An assignment to two left sides has a row: a sum that a flag leads, or a product of two words.
use Rattle.std.proofs.Common.{◌≡◌, Bool, true, false, ◌&&◌, ◌||◌, List, [], ◌∷◌, Option, Some, None, refl, sym, ap, ◌∙◌, subst, if◌then◌else◌}
use Rattle.std.specs.Prelude.{⊤}
use Rattle.std.specs.List.{list_any}
use Rattle.std.proofs.lemmas.Bool.{false≢true, and_parts}
use Rattle.std.proofs.lemmas.List.Folds.{list_any-append}
use Rattle.jz_io.specs.declared.span.Span.{Span}
use Rattle.jz_tree.specs.Operators.{carries}
use Rattle.jz_tree.specs.declared.expr.BinOp.{BinOp}
use Rattle.jz_tree.specs.declared.expr.BinOp.TheVariants as op
use Rattle.jz_tree.specs.declared.expr.Expr.{Expr}
use Rattle.jz_tree.specs.declared.expr.Expr.TheVariants as expr
use Rattle.jz_tree.specs.declared.expr.Expr.TheOpen.{Expr-F}
use Rattle.jz_tree.specs.declared.expr.Expr.TheViews.{out-Expr}
use Rattle.jz_tree.specs.declared.stmt.Lval.{Lval}
use Rattle.jz_tree.specs.declared.stmt.Rhs.{Rhs}
use Rattle.jz_tree.specs.declared.stmt.Rhs.TheVariants as rhs
use Rattle.jz_tree.specs.declared.stmt.StmtKind.TheVariants as stmt
use Rattle.jz_tree.specs.declared.stmt.StmtKind.TheOpen.{StmtKind-F}
use Rattle.jz_tree.specs.declared.stmt.StmtKind.TheViews.{out-StmtKind, out-roll-StmtKind}
use Rattle.jz_type_sizes.specs.Values.{product_layer, is_mul}
use Rattle.jz_select.specs.declared.pattern.Pattern.{Pattern}
use Rattle.jz_select.specs.declared.class.Class.{Class}
use Rattle.jz_select.specs.declared.shape.Value.{Value}
use Rattle.jz_select.specs.declared.shape.Value.TheVariants as values
use Rattle.jz_select.specs.declared.shape.Shape as rowed
use Rattle.jz_select.specs.declared.shape.Shape.TheVariants as shapes
use Rattle.jz_select.specs.Places.{Layer}
use Rattle.jz_select.specs.Operands.{class_of, dest_of, operand_of}
use Rattle.jz_select.specs.Rows.{is_flag, is_flag_result, adds, joins_bits, multiplies, swaps, sums, copy_row, arithmetic_row, carrying_row, times_row, times_inline_row, wide_product_row, quotient_row, inline_shift_row, masked_shift_row}
use Rattle.jz_select.specs.Selected.{Row, rows, FirstMatches, Tells, IsSelected}
use Rattle.jz_select.specs.Shapes.{whichever, itself, two_beside, carry_layer, value_layer, update_layer, assign_of, kind_layer, shape_of}
use Rattle.jz_row_laws.proofs.Booleans.{or_left, or_right}
use Rattle.jz_row_laws.proofs.Copied.{Matches}
use Rattle.jz_meaning.specs.Assignments as assignments
use Rattle.jz_meaning.specs.Assignments.{updated_layer}
use Rattle.jz_one_row.proofs.Outs.{out_bin}
use Rattle.jz_flag_rows.specs.Rows.{IsSumLayer}
use Rattle.jz_total_rows.proofs.Meets.{A}
use Rattle.jz_total_rows.proofs.Assigned.{none_more, either}

-- ---- one of the rows matches
first_any : (rs : List Row) (s : rowed.Shape) (r : Row) → FirstMatches rs s r → list_any (λ (q : Row). q.1 s) rs ≡ true
first_any rs s r (before, after, parts, holds, none) =
    ap (λ xs. list_any (λ (q : Row). q.1 s) xs) parts
    ∙ (list_any-append (λ (q : Row). q.1 s) before (r ∷ after)
    ∙ or_right (list_any (λ (q : Row). q.1 s) before) (list_any (λ (q : Row). q.1 s) (r ∷ after)) (or_left (r.1 s) (list_any (λ (q : Row). q.1 s) after) holds))

pub told_any : (s : rowed.Shape) (p : Pattern) → Tells rows s (Some p) → Matches s
told_any s p (r, is, first) = first_any rows s r first

pub out_assign : (to : List Lval) (o : Option BinOp) (r : Rhs) (c : Option Expr) → out-StmtKind (stmt.Assign to o r c) ≡ StmtKind-F.Assign to o r c
out_assign to o r c = ap out-StmtKind (sym (stmt.rolls-Assign to o r c)) ∙ out-roll-StmtKind (StmtKind-F.Assign to o r c)

pub pair_matches : (f d : Lval) (o : Option BinOp) (e : Expr) (p : Pattern) → IsSelected (stmt.Assign (f ∷ d ∷ []) o (rhs.Value e) None) (Some p)
    → Matches (assign_of (whichever A) (Some (dest_of f)) d o e)
unfolding IsSelected
pair_matches f d o e p h =
    subst (λ k. Matches (kind_layer (whichever A) k)) (out_assign (f ∷ d ∷ []) o (rhs.Value e) None)
    (told_any (shape_of (whichever A) (stmt.Assign (f ∷ d ∷ []) o (rhs.Value e) None)) p (h A))

-- ---- no product: a sum, which matches without a flag too
abbrev pub NoProduct : Value → Type 0
NoProduct (values.Two o a b) = multiplies o ≡ false
NoProduct _ = ⊤

abbrev pub IsSumValue : Value → Type 0
IsSumValue (values.Two o a b) = adds o ≡ true
IsSumValue (values.Carry o a b) = ⊤
IsSumValue _ = ⊥

both_true : (a b : Bool) → a ≡ true → b ≡ true → (a && b) ≡ true
both_true true b e f = f
both_true false b e f = e

not_alone : (a j : Bool) → (a || (j && false)) ≡ true → a ≡ true
not_alone true j h = refl
not_alone false true h = absurd (false≢true h)
not_alone false false h = absurd (false≢true h)

module _ (f d w : Class) where
  pub unled : (v : Value) → NoProduct v → Matches (shapes.Assign (Some f) d w v) → Matches (shapes.Assign None d w v) × IsSumValue v
  unled (values.Two o a b) n h =
      let v : Value = values.Two o a b in
      let led : rowed.Shape = shapes.Assign (Some f) d w v in
      let s : rowed.Shape = shapes.Assign None d w v in
      let P : Type 0 = Matches s × (adds o ≡ true) in
      either P (arithmetic_row led) (wide_product_row led || false)
      (λ e.
      let k = and_parts (adds o || (joins_bits o && false)) (sums (Some f) (swaps o) d a b) e in
      let g = not_alone (adds o) (joins_bits o) k.0 in
      let t = (and_parts (is_flag_result f) (sums None (swaps o) d a b) k.1).1 in (
        or_right (copy_row s) (arithmetic_row s || (times_row s || (times_inline_row s || (quotient_row s || (inline_shift_row s || (masked_shift_row s || false))))))
            (or_left (arithmetic_row s) (times_row s || (times_inline_row s || (quotient_row s || (inline_shift_row s || (masked_shift_row s || false))))) (both_true (adds o || (joins_bits o && true)) (sums None (swaps o) d a b) (or_left (adds o) (joins_bits o && true) g) t)),
        g,
      ))
      (either P (wide_product_row led) false (λ e. absurd (false≢true (sym n ∙ (and_parts (multiplies o) _ e).0))) (none_more P))
      h
  unled (values.Carry o a b) n h =
      let v : Value = values.Carry o a b in
      let led : rowed.Shape = shapes.Assign (Some f) d w v in
      let s : rowed.Shape = shapes.Assign None d w v in
      let P : Type 0 = Matches s × ⊤ in
      either P (carrying_row led) false
      (λ e. (
        or_right (copy_row s) (carrying_row s || false) (or_left (carrying_row s) false (and_parts (is_flag_result f) (sums None (swaps o) d a b) e).1),
        tt,
      ))
      (none_more P)
      h
  unled values.Alone n h = absurd (false≢true h)
  unled (values.One a) n h = absurd (false≢true h)
  unled (values.Cast z s k) n h = absurd (false≢true h)

-- ---- the value of one that is no product
abbrev pub is_times : Layer → Bool
is_times l = product_layer l

no_times : (o : BinOp) (a b : Expr) (at : Span) → is_times (Expr-F.Bin o a b at) ≡ false → multiplies o ≡ false
no_times op.Mul a b at h = absurd (false≢true (sym h))
no_times o a b at h = refl

carry_no_product : (d : Lval) (o : BinOp) (w : Layer) → NoProduct (carry_layer (whichever A) d o w)
carry_no_product d o (Expr-F.Bin p a b at) = by_test (carries o p)
  where
    by_test : (t : Bool) → NoProduct (if t then values.Carry o (operand_of A d a) (operand_of A d b) else values.Alone)
    by_test true = tt
    by_test false = tt
carry_no_product d o (Expr-F.Num i at) = tt
carry_no_product d o (Expr-F.Expr::Bool b at) = tt
carry_no_product d o (Expr-F.Var v) = tt
carry_no_product d o (Expr-F.Cell v i) = tt
carry_no_product d o (Expr-F.Load a) = tt
carry_no_product d o (Expr-F.Neg a at) = tt
carry_no_product d o (Expr-F.Not a at) = tt
carry_no_product d o (Expr-F.Cast z s a at) = tt

pub value_no_product : (d : Lval) (l : Layer) → is_times l ≡ false → NoProduct (value_layer (whichever A) d l)
value_no_product d (Expr-F.Bin o a b at) h = by_test (is_flag (class_of b))
  where
    by_test : (t : Bool) → NoProduct (if t then carry_layer (whichever A) d o (out-Expr a) else two_beside (whichever A) d o a b)
    by_test true = carry_no_product d o (out-Expr a)
    by_test false = no_times o a b at h
value_no_product d (Expr-F.Num i at) h = tt
value_no_product d (Expr-F.Expr::Bool b at) h = tt
value_no_product d (Expr-F.Var v) h = tt
value_no_product d (Expr-F.Cell v i) h = tt
value_no_product d (Expr-F.Load a) h = tt
value_no_product d (Expr-F.Neg a at) h = tt
value_no_product d (Expr-F.Not a at) h = tt
value_no_product d (Expr-F.Cast z s a at) h = tt

no_mul : (o : BinOp) → is_mul o ≡ false → multiplies o ≡ false
no_mul op.Mul h = absurd (false≢true (sym h))
no_mul o h = refl

pub update_no_product : (d : Lval) (o : BinOp) (e : Expr) (l : Layer) → is_mul o ≡ false → NoProduct (update_layer (whichever A) d o e l)
update_no_product d o e (Expr-F.Bin p a b at) h = by_test (carries o p && is_flag (class_of b))
  where
    by_test : (t : Bool) → NoProduct (if t then values.Carry o (itself d) (operand_of A d a) else values.Two o (itself d) (operand_of A d e))
    by_test true = tt
    by_test false = no_mul o h
update_no_product d o e (Expr-F.Num i at) h = no_mul o h
update_no_product d o e (Expr-F.Expr::Bool b at) h = no_mul o h
update_no_product d o e (Expr-F.Var v) h = no_mul o h
update_no_product d o e (Expr-F.Cell v i) h = no_mul o h
update_no_product d o e (Expr-F.Load a) h = no_mul o h
update_no_product d o e (Expr-F.Neg a at) h = no_mul o h
update_no_product d o e (Expr-F.Not a at) h = no_mul o h
update_no_product d o e (Expr-F.Cast z s a at) h = no_mul o h

-- ---- what is summed
sum_layer : (o : BinOp) (a b : Expr) (at : Span) → adds o ≡ true → IsSumLayer (Expr-F.Bin o a b at)
sum_layer op.Add a b at h = tt
sum_layer op.Sub a b at h = tt
sum_layer o a b at h = absurd (false≢true h)

carries_add : (o p : BinOp) → carries o p ≡ true → (adds o ≡ true) × (adds p ≡ true)
carries_add op.Add op.Add h = (refl, refl)
carries_add op.Sub op.Sub h = (refl, refl)
carries_add o p h = absurd (false≢true h)

carry_adds : (d : Lval) (o : BinOp) (w : Layer) → IsSumValue (carry_layer (whichever A) d o w) → adds o ≡ true
carry_adds d o (Expr-F.Bin p a b at) h = by_test (carries o p) refl h
  where
    by_test : (t : Bool) → carries o p ≡ t → IsSumValue (if t then values.Carry o (operand_of A d a) (operand_of A d b) else values.Alone) → adds o ≡ true
    by_test true e h = (carries_add o p e).0
    by_test false e h = absurd h
carry_adds d o (Expr-F.Num i at) h = absurd h
carry_adds d o (Expr-F.Expr::Bool b at) h = absurd h
carry_adds d o (Expr-F.Var v) h = absurd h
carry_adds d o (Expr-F.Cell v i) h = absurd h
carry_adds d o (Expr-F.Load a) h = absurd h
carry_adds d o (Expr-F.Neg a at) h = absurd h
carry_adds d o (Expr-F.Not a at) h = absurd h
carry_adds d o (Expr-F.Cast z s a at) h = absurd h

pub value_sum : (d : Lval) (l : Layer) → IsSumValue (value_layer (whichever A) d l) → IsSumLayer l
value_sum d (Expr-F.Bin o a b at) h = by_test (is_flag (class_of b)) h
  where
    by_test : (t : Bool) → IsSumValue (if t then carry_layer (whichever A) d o (out-Expr a) else two_beside (whichever A) d o a b) → IsSumLayer (Expr-F.Bin o a b at)
    by_test true h = sum_layer o a b at (carry_adds d o (out-Expr a) h)
    by_test false h = sum_layer o a b at h
value_sum d (Expr-F.Num i at) h = absurd h
value_sum d (Expr-F.Expr::Bool b at) h = absurd h
value_sum d (Expr-F.Var v) h = absurd h
value_sum d (Expr-F.Cell v i) h = absurd h
value_sum d (Expr-F.Load a) h = absurd h
value_sum d (Expr-F.Neg a at) h = absurd h
value_sum d (Expr-F.Not a at) h = absurd h
value_sum d (Expr-F.Cast z s a at) h = absurd h

pub update_sum : (d : Lval) (o : BinOp) (e : Expr) (l : Layer) → IsSumValue (update_layer (whichever A) d o e l) → adds o ≡ true
update_sum d o e (Expr-F.Bin p a b at) h = by_test (carries o p) (is_flag (class_of b)) refl h
  where
    by_test : (t s : Bool) → carries o p ≡ t → IsSumValue (if t && s then values.Carry o (itself d) (operand_of A d a) else values.Two o (itself d) (operand_of A d e)) → adds o ≡ true
    by_test true true k h = (carries_add o p k).0
    by_test true false k h = h
    by_test false s k h = h
update_sum d o e (Expr-F.Num i at) h = h
update_sum d o e (Expr-F.Expr::Bool b at) h = h
update_sum d o e (Expr-F.Var v) h = h
update_sum d o e (Expr-F.Cell v i) h = h
update_sum d o e (Expr-F.Load a) h = h
update_sum d o e (Expr-F.Neg a at) h = h
update_sum d o e (Expr-F.Not a at) h = h
update_sum d o e (Expr-F.Cast z s a at) h = h

-- the whole right side of `d += e`
whole_sum : (o : BinOp) (a b : Expr) (at : Span) → adds o ≡ true → IsSumLayer (out-Expr (expr.Bin o a b at))
whole_sum o a b at h = subst IsSumLayer (sym (out_bin o a b at)) (sum_layer o a b at h)

pub updated_sum : (o : BinOp) (r e : Expr) (here : Span) (l : Layer) → adds o ≡ true → IsSumLayer (out-Expr (updated_layer o r e here l))
updated_sum o r e here (Expr-F.Bin p u v at) h = by_test (carries o p) (assignments.is_flag v) refl
  where
    by_test : (t s : Bool) → carries o p ≡ t → IsSumLayer (out-Expr (if t && s then expr.Bin p (expr.Bin o r u here) v here else expr.Bin o r e here))
    by_test true true k = whole_sum p (expr.Bin o r u here) v here (carries_add o p k).1
    by_test true false k = whole_sum o r e here h
    by_test false s k = whole_sum o r e here h
updated_sum o r e here (Expr-F.Num i at) h = whole_sum o r e here h
updated_sum o r e here (Expr-F.Expr::Bool b at) h = whole_sum o r e here h
updated_sum o r e here (Expr-F.Var v) h = whole_sum o r e here h
updated_sum o r e here (Expr-F.Cell v i) h = whole_sum o r e here h
updated_sum o r e here (Expr-F.Load a) h = whole_sum o r e here h
updated_sum o r e here (Expr-F.Neg a at) h = whole_sum o r e here h
updated_sum o r e here (Expr-F.Not a at) h = whole_sum o r e here h
updated_sum o r e here (Expr-F.Cast z s a at) h = whole_sum o r e here h
