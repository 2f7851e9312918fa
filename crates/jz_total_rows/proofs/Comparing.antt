-- A typed condition that is a comparison has an operation, and a condition behind it.
use Rattle.std.proofs.Common.{◌≡◌, true, false, not, ◌&&◌, Option, Some, None, refl, sym, ap, ◌∙◌, subst, inl, inr}
use Rattle.std.specs.Prelude.{◌⊎◌}
use Rattle.std.specs.Option.{option_or}
use Rattle.std.proofs.lemmas.Bool.{false≢true, and_parts}
use Rattle.jz_words.specs.declared.size.Size.{Size}
use Rattle.x64_insn.specs.declared.types.Alu.TheVariants as alu
use Rattle.x64_insn.specs.declared.types.Cond.{Cond}
use Rattle.x64_insn.specs.declared.types.Cond.TheVariants as cond
use Rattle.jz_tree.specs.Span.{Span}
use Rattle.jz_tree.specs.Operators.{is_shift}
use Rattle.jz_tree.specs.declared.expr.BinOp.{BinOp}
use Rattle.jz_tree.specs.declared.expr.BinOp.TheVariants as op
use Rattle.jz_tree.specs.declared.expr.Expr.{Expr}
use Rattle.jz_tree.specs.declared.expr.Expr.TheVariants as expr
use Rattle.jz_tree.specs.declared.expr.Expr.TheOpen.{Expr-F}
use Rattle.jz_tree.specs.declared.expr.Expr.TheViews.{out-Expr, out-Access}
use Rattle.jz_tree.specs.declared.expr.Var.{Var}
use Rattle.jz_type_names.specs.Kinds.{known_of, is_inline}
use Rattle.jz_type_sizes.specs.declared.operators.Group.TheVariants as group
use Rattle.jz_type_sizes.specs.Operators.{group_of}
use Rattle.jz_select.specs.Places.{Layer}
use Rattle.jz_select.specs.InnerLayers.{flags_layer}
use Rattle.jz_select.specs.Look.{compares_values}
use Rattle.jz_select.specs.Operands.{var_class, class_of}
use Rattle.jz_select.specs.Rows.{is_m, is_i, is_rm, is_rmi}
use Rattle.jz_select.specs.Shapes.{has_flags, compares}
use Rattle.jz_select.proofs.Conditions.{flags_out}
use Rattle.jz_judgement.specs.Places as place
use Rattle.jz_judgement.specs.HasType as judged
use Rattle.jz_judgement.specs.HasType.{value, HasType, Types, Operates, Says}
use Rattle.jz_row_laws.proofs.Booleans.{or_left}
use Rattle.jz_one_row.proofs.Outs.{out_num, out_bool, out_var, out_cell, out_load, out_neg, out_not, out_cast, out_bin}
use Rattle.jz_meaning.specs.Values.{own_size}
use Rattle.jz_limits.specs.declared.looked.Asking.{Asking}
use Rattle.jz_limits.specs.Asked.{size_compared}
use Rattle.jz_limits.proofs.Compared.{compared_not, compared_bin}
use Rattle.jz_operations.specs.declared.operation.Operation.{Operation}
use Rattle.jz_operations.specs.declared.operation.Action.TheVariants as action
use Rattle.jz_homes.specs.Homes.{Homes}
use Rattle.jz_homes.specs.Operands.{Leaks}
use Rattle.jz_row_operations.specs.Codes.{plain}
use Rattle.jz_row_operations.specs.Rows.{cond_of, opposite}
use Rattle.jz_row_operations.specs.Lowering as lowering
use Rattle.jz_row_operations.specs.Lowering.{IsCompared}
use Rattle.jz_total_rows.specs.Expanded.{HasHome, a_word, a_flag, a_scalar, an_array, IsExpanded, a_number, a_truth, a_variable, a_cell, a_load, a_minus, a_denial, a_cast, of_two}
use Rattle.jz_total_rows.specs.Covered as covered
use Rattle.jz_total_rows.specs.Covered.{IsComparison}
use Rattle.jz_total_rows.proofs.Summed.{seen}
use Rattle.jz_total_rows.proofs.Fits.{alu_spelled}
use Rattle.jz_total_rows.proofs.Stands.{stands_place, kept_both}
use Rattle.jz_total_rows.proofs.Bringing.{encode}
use Rattle.jz_total_rows.proofs.Operands.{of_size, typed_as, operand_there}
use Rattle.jz_total_rows.proofs.Counting.{says_own}
use Rattle.jz_total_rows.proofs.Classes.{class_test, two_not, sign_not}
use Rattle.jz_total_rows.proofs.KeptLimits.{two_kept, denial_kept}
use Rattle.jz_total_rows.proofs.Rows.{not_imm, place_not_imm}
use Rattle.jz_total_rows.proofs.Assigned.{if_false}

-- ---- comparisons by their outermost form
abbrev ComparisonLayer : Layer → Type 0
ComparisonLayer (Expr-F.Not a at) = IsComparison a
ComparisonLayer (Expr-F.Bin o a b at) = compares_values o ≡ true
ComparisonLayer _ = ⊥

comparison_layer : (e : Expr) → IsComparison e → ComparisonLayer (out-Expr e)
comparison_layer e (covered.compares o a b at h) = subst ComparisonLayer (sym (out_bin o a b at)) h
comparison_layer e (covered.denies a at h) = subst ComparisonLayer (sym (out_not a at)) h

comparison_at : (e : Expr) (l : Layer) → out-Expr e ≡ l → IsComparison e → ComparisonLayer l
comparison_at e l s h = subst ComparisonLayer s (comparison_layer e h)

-- ---- operators
compare_group : (o : BinOp) → compares_values o ≡ true → group_of o ≡ group.Compare
compare_group op.Eq h = refl
compare_group op.Ne h = refl
compare_group op.Lt h = refl
compare_group op.Le h = refl
compare_group op.Gt h = refl
compare_group op.Ge h = refl
compare_group op.LtS h = refl
compare_group op.LeS h = refl
compare_group op.GtS h = refl
compare_group op.GeS h = refl
compare_group o h = absurd (false≢true h)

compare_no_shift : (o : BinOp) → compares_values o ≡ true → is_shift o ≡ false
compare_no_shift op.Eq h = refl
compare_no_shift op.Ne h = refl
compare_no_shift op.Lt h = refl
compare_no_shift op.Le h = refl
compare_no_shift op.Gt h = refl
compare_no_shift op.Ge h = refl
compare_no_shift op.LtS h = refl
compare_no_shift op.LeS h = refl
compare_no_shift op.GtS h = refl
compare_no_shift op.GeS h = refl
compare_no_shift o h = absurd (false≢true h)

condition_of : (o : BinOp) → compares_values o ≡ true → (c : Cond) × (cond_of o ≡ Some c)
condition_of op.Eq h = (cond.E, refl)
condition_of op.Ne h = (cond.Ne, refl)
condition_of op.Lt h = (cond.B, refl)
condition_of op.Le h = (cond.Be, refl)
condition_of op.Gt h = (cond.A, refl)
condition_of op.Ge h = (cond.Ae, refl)
condition_of op.LtS h = (cond.L, refl)
condition_of op.LeS h = (cond.Le, refl)
condition_of op.GtS h = (cond.G, refl)
condition_of op.GeS h = (cond.Ge, refl)
condition_of o h = absurd (false≢true h)

-- ---- a register or memory is no integer
access_integer : (a : judged.AccessLayer) → judged.Accesses a place.integer → ⊥
access_integer a (judged.sized z s t x) = t

goes_integer : (home : Homes) (v : Var) → HasHome home v → is_rm (var_class (known_of v)) ≡ true → place.Goes (known_of v) place.integer → ⊥
goes_integer home v (a_word z n d k h) e g = subst (λ q. place.Goes q place.integer) d g
goes_integer home v (a_flag n d k h) e g = subst (λ q. place.Goes q place.integer) d g
goes_integer home v (a_scalar z w d k h) e g = subst (λ q. place.Goes q place.integer) d g
goes_integer home v (an_array z n w d c) e g = subst (λ q. place.Goes q place.integer) d g

no_integer : (home : Homes) (e : Expr) → IsExpanded home e → is_rm (class_of e) ≡ true → HasType (value e) place.integer → ⊥
no_integer home e (a_number i at) h t = false≢true (class_test is_rm (expr.Num i at) (Expr-F.Num i at) (out_num i at) h)
no_integer home e (a_truth b at) h t = false≢true (class_test is_rm (expr.Bool b at) (Expr-F.Expr::Bool b at) (out_bool b at) h)
no_integer home e (a_variable v x) h t = by_type (typed_as (expr.Var v) (Expr-F.Var v) place.integer (out_var v) t)
  where
    by_type : Types (Expr-F.Var v) place.integer → ⊥
    by_type (judged.variable g) = goes_integer home v x (class_test is_rm (expr.Var v) (Expr-F.Var v) (out_var v) h) g
no_integer home e (a_cell v i x y) h t = by_type (typed_as (expr.Cell v i) (Expr-F.Cell v i) place.integer (out_cell v i) t)
  where
    by_type : Types (Expr-F.Cell v i) place.integer → ⊥
    by_type (judged.cell z a k q) = k
no_integer home e (a_load a x) h t = by_type (typed_as (expr.Load a) (Expr-F.Load a) place.integer (out_load a) t)
  where
    by_type : Types (Expr-F.Load a) place.integer → ⊥
    by_type (judged.load k) = access_integer (out-Access a) k
no_integer home e (a_minus a at n x) h t = sign_not home is_rm a refl n x (class_test is_rm (expr.Neg a at) (Expr-F.Neg a at) (out_neg a at) h)
no_integer home e (a_denial a at n x) h t = sign_not home is_rm a refl n x (class_test is_rm (expr.Not a at) (Expr-F.Not a at) (out_not a at) h)
no_integer home e (a_cast z s a at x) h t = false≢true (class_test is_rm (expr.Cast z s a at) (Expr-F.Cast z s a at) (out_cast z s a at) h)
no_integer home e (of_two o a b at n x y) h t = two_not home is_rm refl refl refl o a b at n x y h

-- ---- the types of both
pub record BothWords (a b : Expr) : Type 0 where
  pub size : Size
  pub says : Says (value a) size ⊎ Says (value b) size
  pub first : HasType (value a) (place.word size)
  pub second : HasType (value b) (place.word size)

logic_not : group.Compare ≡ group.Logic → ⊥
logic_not e = absurd cc

both_words : (home : Homes) (o : BinOp) (a b : Expr) → IsExpanded home a → is_rm (class_of a) ≡ true → compares_values o ≡ true → Operates o (value a) (value b) place.truth → BothWords a b
both_words home o a b x r c (judged.words z g s t u) = record { size = z; says = s; first = t; second = u }
both_words home o a b x r c (judged.integers g m t u) = absurd (no_integer home a x r t)
both_words home o a b x r c (judged.arithmetic g k m t u) = absurd k
both_words home o a b x r c (judged.carry s k t u) = absurd k
both_words home o a b x r c (judged.shift g k m t u) = absurd k
both_words home o a b x r c (judged.logic g t u) = absurd (logic_not (sym (compare_group o c) ∙ g))

-- ---- conditions
pub record Compared (home : Homes) (at : Span) (k : Expr) : Type 0 where
  pub compare : Operation
  pub cond : Cond
  pub first : Leaks
  pub second : Leaks
  pub is : IsCompared home at k compare cond first second

abbrev pub at_compared : Expr → Asking
at_compared k = record { place = None; size = size_compared k }

either_size : (a b : Option Size) (z : Size) → ((y : Size) → a ≡ Some y → y ≡ z) → (a ≡ Some z) ⊎ (b ≡ Some z) → option_or a b ≡ Some z
either_size None b z f (inl h) = absurd cc
either_size None b z f (inr h) = h
either_size (Some y) b z f h = ap (λ k. Some k) (f y refl)

compare_there : (home : Homes) (at : Span) (o : BinOp) (a b : Expr) (here : Span) → (is_inline a && is_inline b) ≡ false → IsExpanded home a → IsExpanded home b → HasType (value (expr.Bin o a b here)) place.truth
    → compares o (class_of a) (class_of b) ≡ true → (seen (at_compared (expr.Bin o a b here)) (expr.Bin o a b here)).operand ≡ None → Compared home at (expr.Bin o a b here)
compare_there home at o a b here n x y t h l =
    let p = and_parts (compares_values o) _ h in
    let q = and_parts (is_rm (class_of a)) _ p.1 in
    let r = and_parts (is_rmi (class_of b)) (not (is_m (class_of a) && is_m (class_of b))) q.1 in
    let w = both_words home o a b x q.0 p.0 (operates_of (typed_as (expr.Bin o a b here) (Expr-F.Bin o a b here) place.truth (out_bin o a b here) t)) in
    let z = w.size in
    let O = operand_there home z (place.word z) a of_size x w.first (or_left (is_rm (class_of a)) (is_i (class_of a)) q.0) in
    let Q = operand_there home z (place.word z) b of_size y w.second r.0 in
    let s = either_size (own_size a) (own_size b) z O.owns (owns_by z w.first w.second w.says) in
    let m = two_kept (record { place = None; size = Some z }) o a b here n (subst (λ k. (seen (record { place = None; size = k }) (expr.Bin o a b here)).operand ≡ None) (compared_bin o a b here ∙ s) l) in
    let f = O.fits None m.0 in
    let g = Q.fits None (if_false (is_shift o) _ _ _ (compare_no_shift o p.0) m.1) in
    let c = condition_of o p.0 in
    let u = stands_place O.stands q.0 in
    record {
      compare = plain at (action.Alu alu.Cmp z O.arg' Q.arg' None);
      cond = c.0;
      first = O.leaks;
      second = Q.leaks;
      is =
          lowering.compares here c.1 s O.is Q.is (not_imm O.arg' (place_not_imm O.arg' u))
          (encode (action.Alu alu.Cmp z O.arg' Q.arg' None) (λ d e. alu_spelled d alu.Cmp z O.arg' Q.arg' None refl u (kept_both O.stands Q.stands r.1) (f d e) (g d e)));
    }
  where
    operates_of : Types (Expr-F.Bin o a b here) place.truth → Operates o (value a) (value b) place.truth
    operates_of (judged.operation k) = k

    owns_by : (z : Size) → HasType (value a) (place.word z) → HasType (value b) (place.word z) → Says (value a) z ⊎ Says (value b) z → (own_size a ≡ Some z) ⊎ (own_size b ≡ Some z)
    owns_by z t u (inl s) = inl (says_own home a (place.word z) z x t s)
    owns_by z t u (inr s) = inr (says_own home b (place.word z) z y u s)

flags_at : (e : Expr) (l : Layer) → out-Expr e ≡ l → has_flags e ≡ true → flags_layer l ≡ true
flags_at e l s h = sym (flags_out e ∙ ap flags_layer s) ∙ h

pub compared_there : (home : Homes) (at : Span) (k : Expr) → IsExpanded home k → HasType (value k) place.truth → has_flags k ≡ true → IsComparison k → (seen (at_compared k) k).operand ≡ None → Compared home at k
compared_there home at k (a_number i here) t h c l = absurd (comparison_at (expr.Num i here) (Expr-F.Num i here) (out_num i here) c)
compared_there home at k (a_truth b here) t h c l = absurd (comparison_at (expr.Bool b here) (Expr-F.Expr::Bool b here) (out_bool b here) c)
compared_there home at k (a_variable v x) t h c l = absurd (comparison_at (expr.Var v) (Expr-F.Var v) (out_var v) c)
compared_there home at k (a_cell v i x y) t h c l = absurd (comparison_at (expr.Cell v i) (Expr-F.Cell v i) (out_cell v i) c)
compared_there home at k (a_load a x) t h c l = absurd (comparison_at (expr.Load a) (Expr-F.Load a) (out_load a) c)
compared_there home at k (a_minus a here n x) t h c l = absurd (comparison_at (expr.Neg a here) (Expr-F.Neg a here) (out_neg a here) c)
compared_there home at k (a_cast z s a here x) t h c l = absurd (comparison_at (expr.Cast z s a here) (Expr-F.Cast z s a here) (out_cast z s a here) c)
compared_there home at k (a_denial a here n x) t h c l =
    let e = expr.Not a here in
    let r = compared_there home at a x (truth_of (typed_as e (Expr-F.Not a here) place.truth (out_not a here) t)) (flags_at e (Expr-F.Not a here) (out_not a here) h) (comparison_at e (Expr-F.Not a here) (out_not a here) c)
    (subst (λ s. (seen (record { place = None; size = s }) a).operand ≡ None) (compared_not a here) (denial_kept (at_compared e) a here n l)) in
    record { compare = r.compare; cond = opposite r.cond; first = r.first; second = r.second; is = lowering.denies here r.is }
  where
    truth_of : Types (Expr-F.Not a here) place.truth → HasType (value a) place.truth
    truth_of (judged.inverted t) = t
compared_there home at k (of_two o a b here n x y) t h c l =
    let e = expr.Bin o a b here in
    compare_there home at o a b here n x y t (flags_at e (Expr-F.Bin o a b here) (out_bin o a b here) h) l
