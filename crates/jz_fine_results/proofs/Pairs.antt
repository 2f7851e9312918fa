-- Assignments of two results: a flag and a word, or both words of a product.
use Rattle.std.proofs.Common.{◌≡◌, Bool, true, false, ◌&&◌, [], ◌∷◌, Option, Some, None, refl, sym, ap, ◌∙◌, subst, inl, inr, if◌then◌else◌}
use Rattle.std.specs.Prelude.{◌⊎◌, All}
use Rattle.std.specs.Option.{option_or}
use Rattle.std.proofs.lemmas.Bool.{false≢true, and_parts}
use Rattle.std.proofs.lemmas.List.Elements.{All-nil, All-cons, All-head, All-tail}
use Rattle.x64_insn.specs.Size.{Size}
use Rattle.jz_tree.specs.Operators.{carries}
use Rattle.jz_tree.specs.Span.{Span}
use Rattle.jz_tree.specs.declared.expr.BinOp.{BinOp}
use Rattle.jz_tree.specs.declared.expr.BinOp.TheVariants as op
use Rattle.jz_tree.specs.declared.expr.Expr.{Expr}
use Rattle.jz_tree.specs.declared.expr.Expr.TheVariants as expr
use Rattle.jz_tree.specs.declared.expr.Expr.TheOpen.{Expr-F}
use Rattle.jz_tree.specs.declared.expr.Expr.TheViews.{out-Expr}
use Rattle.jz_tree.specs.declared.stmt.Lval.{Lval}
use Rattle.jz_tree.specs.declared.stmt.Lval.TheVariants as lval
use Rattle.jz_tree.specs.declared.stmt.Rhs.TheVariants as rhs
use Rattle.jz_tree.specs.declared.expr.Storage.{Storage}
use Rattle.jz_tree.specs.declared.expr.Storage.TheVariants as storage
use Rattle.jz_type_names.specs.declared.kinds.Kind as known
use Rattle.jz_type_names.specs.declared.kinds.Kind.TheVariants as scope
use Rattle.jz_type_names.specs.Kinds.{Known, known_of, inline_int, is_inline_int, is_array, is_array_kind, whole_array}
use Rattle.jz_type_sizes.specs.declared.operators.Group.TheVariants as group
use Rattle.jz_type_sizes.specs.Operators.{group_of}
use Rattle.jz_type_sizes.specs.Sides.{left_form}
use Rattle.jz_type_sizes.specs.Values.{value_typing, product_layer, is_mul, is_product}
use Rattle.jz_select.specs.declared.class.Class.{Class}
use Rattle.jz_select.specs.declared.class.Class.TheVariants as class
use Rattle.jz_select.specs.declared.class.Operand.{Operand}
use Rattle.jz_select.specs.declared.shape.Value.{Value}
use Rattle.jz_select.specs.declared.shape.Value.TheVariants as values
use Rattle.jz_select.specs.Operands.{class_at, var_class, class_of, dest_of}
use Rattle.jz_select.specs.Rows.{is_rm, is_rmi, is_flag, adds, multiplies, class_size}
use Rattle.jz_select.specs.Shapes.{Asked, itself, beside, value_layer, update_layer}
use Rattle.jz_judgement.specs.Places as place
use Rattle.jz_judgement.specs.Places.{word, truth}
use Rattle.jz_judgement.specs.HasType as judged
use Rattle.jz_judgement.specs.HasType.{Layer, value, HasType, Says, Operates}
use Rattle.jz_judgement.specs.Lefts as lefts
use Rattle.jz_judgement.specs.Lefts.{Wants, Leaves, Holds, Takes, IsFlag, IsProduct, Values, value_term}
use Rattle.jz_judgement.proofs.Holding.{wants_size, leaves_size}
use Rattle.jz_judgement.proofs.Nothing.{none_not, some_not, same_some}
use Rattle.jz_meaning.specs.States.{Key}
use Rattle.jz_meaning.specs.Values.{own_size}
use Rattle.jz_meaning.specs.Assignments as runs
use Rattle.jz_meaning.specs.Assignments.{left_sizes, as_expr, left_span, updated_layer, updated, whole_of}
use Rattle.jz_run_laws.specs.Kinds.{Kinds}
use Rattle.jz_run_laws.specs.Lefts.{IsCountedLeft}
use Rattle.jz_run_laws.proofs.LeftSizes.{flag_none, assignment_law}
use Rattle.jz_run_laws.proofs.Placed.{sum_group}
use Rattle.jz_row_laws.proofs.Assigned.{FineLeft, fine_class, fine_result, fine_pinned}
use Rattle.jz_row_laws.proofs.Copied.{rm_class}
use Rattle.jz_row_classes.specs.RowClasses.{PairFits, PairValue}
use Rattle.jz_row_classes.proofs.PairRows.{PairRow, sum, carried, product, layer_row}
use Rattle.jz_stuck_runs.proofs.Assigning.{sized_term}
use Rattle.jz_stuck_runs.proofs.Classes.{rmi_no_truth}
use Rattle.jz_stuck_runs.proofs.RowSizes.{known_array_rm, known_number_rm, left_none, operand_none, four_none}
use Rattle.jz_stuck_runs.proofs.Updates.{out_bin, sums, carried_by, sum_typed, parts_of, read_operates}
use Rattle.jz_terms.specs.Terms.{term_of}
use Rattle.jz_terms.proofs.TermForms.{term_var, term_cell, term_load}
use Rattle.jz_fact_laws.specs.Saying.{is_number}
use Rattle.jz_standing.specs.Typing as standing
use Rattle.jz_standing.specs.Typing.{IsWord}
use Rattle.jz_instructed.specs.Instructed.{a_flag, a_word, a_pinned, TakesShape}
use Rattle.jz_two_results.specs.TwoResults.{Pair, of_sum, of_difference, of_product, before, last_of, IsPair, IsCarriedPair, IsPaired}
use Rattle.jz_plain_operands.specs.Plain.{IsPlainExpr, IsPlainLeft, to_variable}
use Rattle.jz_plain_operands.proofs.Layers.{not_numbers}
use Rattle.jz_plain_operands.proofs.Operands.{word_there, flag_there}
use Rattle.jz_plain_operands.proofs.Lefts.{no_number, word_taken, pinned_taken, flag_taken}
use Rattle.jz_plain_operands.proofs.Counting.{all_counted, flags_same, parts_plain}
use Rattle.jz_fine_results.specs.FineLaws.{PairsAreFine}
use Rattle.jz_fine_results.proofs.Matching.{lefts_counted}

-- ---- operators
shift_not : group.Shift ≡ group.Arith → ⊥
shift_not e = cc

add_group : (p : BinOp) → adds p ≡ true → group_of p ≡ group.Arith
add_group op.Add g = refl
add_group op.Sub g = refl
add_group p g = absurd (false≢true g)

mul_group : (p : BinOp) → multiplies p ≡ true → group_of p ≡ group.Arith
mul_group op.Mul g = refl
mul_group p g = absurd (false≢true g)

mul_is : (p : BinOp) → multiplies p ≡ true → is_mul p ≡ true
mul_is op.Mul g = refl
mul_is p g = absurd (false≢true g)

mul_layer : (p : BinOp) (a b : Expr) (at : Span) (l : Layer) → l ≡ Expr-F.Bin p a b at → multiplies p ≡ true → product_layer l ≡ true
mul_layer op.Mul a b at l is g = ap product_layer is
mul_layer p a b at l is g = absurd (false≢true g)

-- both operands are words, where the second is no truth
words_of : (p : BinOp) (a b : Expr) (z : Size) → group_of p ≡ group.Arith → (HasType (value b) truth → ⊥) → Operates p (value a) (value b) (word z) → HasType (value a) (word z) × HasType (value b) (word z)
words_of p a b z g n (judged.arithmetic h k m x y) = (x, y)
words_of p a b z g n (judged.carry s k x y) = absurd (n y)
words_of p a b z g n (judged.shift h k m x y) = absurd (shift_not (sym h ∙ g))

rmi_flag : (c : Class) → is_rmi c ≡ true → is_flag c ≡ false
rmi_flag (class.Reg z) h = refl
rmi_flag (class.Mem z) h = refl
rmi_flag class.Inline h = refl
rmi_flag class.Flag h = absurd (false≢true h)
rmi_flag (class.Masked m) h = refl
rmi_flag class.Skip h = refl
rmi_flag class.Other h = refl

no_left_number : (b c : Bool) → b ≡ false → (b && c) ≡ false
no_left_number b c e = ap (λ x. x && c) e

array_class : (s : Storage) (k : known.Kind) → is_array_kind k ≡ true → is_rmi (class_at s k) ≡ true → ⊥
array_class storage.Reg (scope.Array z) a h = false≢true h
array_class storage.Stack (scope.Array z) a h = false≢true h
array_class storage.Inline (scope.Array z) a h = false≢true h
array_class s k a h = false≢true a

array_rmi : (k : Known) → is_array k ≡ true → is_rmi (var_class k) ≡ true → ⊥
array_rmi None a h = false≢true h
array_rmi (Some d) a h = array_class d.storage d.kind a h

-- both left sides have classes
both_fine : (c d : Lval) (v : Value) → PairFits (dest_of c) (dest_of d) v → All FineLeft (c ∷ d ∷ [])
both_fine c d v h = by_value v h
  where
    two : FineLeft c → FineLeft d → All FineLeft (c ∷ d ∷ [])
    two f g = All-cons FineLeft c (d ∷ []) f (All-cons FineLeft d [] g (All-nil FineLeft))

    by_value : (v : Value) → PairFits (dest_of c) (dest_of d) v → All FineLeft (c ∷ d ∷ [])
    by_value values.Alone h = absurd h
    by_value (values.One a) h = absurd h
    by_value (values.Cast z s k) h = absurd h
    by_value (values.Carry p a o) h = two (fine_result (dest_of c) h.lead) (fine_class (dest_of d) (rm_class (dest_of d) h.to))
    by_value (values.Two p a o) (inl h) = two (fine_result (dest_of c) h.1.lead) (fine_class (dest_of d) (rm_class (dest_of d) h.1.to))
    by_value (values.Two p a o) (inr h) = two (fine_pinned (dest_of c) h.high) (fine_pinned (dest_of d) h.low)

row_fine : (asked : Asked) (c d : Lval) (o : Option BinOp) (e : Expr) → PairValue asked c d o e → All FineLeft (c ∷ d ∷ [])
row_fine asked c d None e m = both_fine c d (value_layer asked d (out-Expr e)) m
row_fine asked c d (Some o) e m = both_fine c d (update_layer asked d o e (out-Expr e)) m

module _ (kinds : Kinds) (in_frame : Key → Bool) where
  -- ---- a left side where it is read
  abbrev IsOperandOf : Size → Expr → Type 0
  IsOperandOf z e = IsWord kinds in_frame (Some z) z (term_of e)

  abbrev IsFlagTerm : Expr → Type 0
  IsFlagTerm e = standing.IsFlag kinds in_frame (term_of e)

  read_number : (d : Lval) (r : Expr) → as_expr d ≡ Some r → is_number (term_of r) ≡ false
  read_number (lval.Skip at) r e = absurd (none_not r e)
  read_number (lval.Var v) r e = ap is_number (term_var r v (sym (same_some (expr.Var v) r e)))
  read_number (lval.Cell v i) r e = ap is_number (term_cell r v i (sym (same_some (expr.Cell v i) r e)))
  read_number (lval.Store a) r e = ap is_number (term_load r a (sym (same_some (expr.Load a) r e)))

  read_word : (d : Lval) (r : Expr) (z : Size) → as_expr d ≡ Some r → TakesShape kinds in_frame (a_word z) d → IsOperandOf z r
  read_word (lval.Skip at) r z e t = absurd (none_not r e)
  read_word (lval.Var v) r z e t = subst (λ x. IsWord kinds in_frame (Some z) z x) (sym (term_var r v (sym (same_some (expr.Var v) r e)))) t
  read_word (lval.Cell v i) r z e t = subst (λ x. IsWord kinds in_frame (Some z) z x) (sym (term_cell r v i (sym (same_some (expr.Cell v i) r e)))) t
  read_word (lval.Store a) r z e t = subst (λ x. IsWord kinds in_frame (Some z) z x) (sym (term_load r a (sym (same_some (expr.Load a) r e)))) t

  read_pinned : (d : Lval) (r : Expr) (z : Size) → as_expr d ≡ Some r → TakesShape kinds in_frame (a_pinned z) d → IsOperandOf z r
  read_pinned (lval.Skip at) r z e t = absurd (none_not r e)
  read_pinned (lval.Var v) r z e t = subst (λ x. IsWord kinds in_frame (Some z) z x) (sym (term_var r v (sym (same_some (expr.Var v) r e)))) t
  read_pinned (lval.Cell v i) r z e t = absurd t
  read_pinned (lval.Store a) r z e t = absurd t

  -- ---- what is made of two left sides and a whole
  record Made (c d : Lval) (z : Size) (w : Expr) : Type 0 where
    pub pair : Pair
    pub first : TakesShape kinds in_frame (before pair z) c
    pub last : TakesShape kinds in_frame (last_of pair z) d
    pub value : IsPair kinds in_frame pair z w ⊎ IsCarriedPair kinds in_frame pair z w

  made_sum : (c d : Lval) (z : Size) (w : Expr) (p : BinOp) (a b : Expr) (at : Span) → adds p ≡ true → out-Expr w ≡ Expr-F.Bin p a b at → runs.is_flag b ≡ false → (is_number (term_of a) && is_number (term_of b)) ≡ false
      → IsOperandOf z a → IsOperandOf z b → TakesShape kinds in_frame a_flag c → TakesShape kinds in_frame (a_word z) d → Made c d z w
  made_sum c d z w op.Add a b at g is f n x y s t = record { pair = of_sum; first = s; last = t; value = inl (record { left = a; right = b; at = at; is = is; no_flag = f; no_number = n; first = x; second = y }) }
  made_sum c d z w op.Sub a b at g is f n x y s t = record { pair = of_difference; first = s; last = t; value = inl (record { left = a; right = b; at = at; is = is; no_flag = f; no_number = n; first = x; second = y }) }
  made_sum c d z w p a b at g is f n x y s t = absurd (false≢true g)

  made_product : (c d : Lval) (z : Size) (w : Expr) (p : BinOp) (a b : Expr) (at : Span) → multiplies p ≡ true → out-Expr w ≡ Expr-F.Bin p a b at → runs.is_flag b ≡ false → (is_number (term_of a) && is_number (term_of b)) ≡ false
      → IsOperandOf z a → IsOperandOf z b → TakesShape kinds in_frame (a_pinned z) c → TakesShape kinds in_frame (a_pinned z) d → Made c d z w
  made_product c d z w op.Mul a b at g is f n x y s t = record { pair = of_product; first = s; last = t; value = inl (record { left = a; right = b; at = at; is = is; no_flag = f; no_number = n; first = x; second = y }) }
  made_product c d z w p a b at g is f n x y s t = absurd (false≢true g)

  -- w: (a op b) op f
  made_carried : (c d : Lval) (z : Size) (w i : Expr) (p q : BinOp) (a b f : Expr) (at inner : Span) → carries p q ≡ true → out-Expr w ≡ Expr-F.Bin p i f at → out-Expr i ≡ Expr-F.Bin q a b inner → runs.is_flag f ≡ true
      → (is_number (term_of a) && is_number (term_of b)) ≡ false → IsOperandOf z a → IsOperandOf z b → IsFlagTerm f → TakesShape kinds in_frame a_flag c → TakesShape kinds in_frame (a_word z) d → Made c d z w
  made_carried c d z w i op.Add op.Add a b f at inner g is ia k n x y v s t =
      record {
        pair = of_sum;
        first = s;
        last = t;
        value = inr (record { inner = i; left = a; right = b; flag = f; inner_at = inner; at = at; is = is; inner_is = ia; by_flag = k; may_carry = refl; no_number = n; first = x; second = y; third = v });
      }
  made_carried c d z w i op.Sub op.Sub a b f at inner g is ia k n x y v s t =
      record {
        pair = of_difference;
        first = s;
        last = t;
        value = inr (record { inner = i; left = a; right = b; flag = f; inner_at = inner; at = at; is = is; inner_is = ia; by_flag = k; may_carry = refl; no_number = n; first = x; second = y; third = v });
      }
  made_carried c d z w i p q a b f at inner g is ia k n x y v s t = absurd (false≢true g)

  -- ---- what is known of the left sides and the value
  record AreTyped (c d : Lval) (o : Option BinOp) (e : Expr) (z : Size) : Type 0 where
    pub plain : IsPlainExpr kinds in_frame e
    pub first_plain : IsPlainLeft kinds in_frame c
    pub last_plain : IsPlainLeft kinds in_frame d
    pub typed : HasType (value_term o d e) (word z)
    pub last_holds : Holds (word z) d
    pub first_holds : is_product o e ≡ true → Holds (word z) c

  no_flag : (e : Expr) → IsPlainExpr kinds in_frame e → is_rmi (class_of e) ≡ true → runs.is_flag e ≡ false
  no_flag e x h = flags_same kinds in_frame e x ∙ rmi_flag (class_of e) h

  -- ---- `c, d = e`
  value_made : (c d : Lval) (e : Expr) (z : Size) → AreTyped c d None e z → PairRow (dest_of c) (dest_of d) e → Made c d z e
  value_made c d e z k (sum p a b at is g l r m n) =
      let v = parts_plain kinds in_frame e p a b at is k.plain in
      let t = words_of p a b z (add_group p g) (rmi_no_truth b n) (parts_of e p a b at (word z) is k.typed) in
      made_sum c d z e p a b at g is (no_flag b v.second n) (not_numbers kinds in_frame a b v.first v.second v.none) (word_there kinds in_frame a z v.first t.0 m) (word_there kinds in_frame b z v.second t.1 n)
      (flag_taken kinds in_frame c k.first_plain l) (word_taken kinds in_frame d z k.last_plain k.last_holds r)
  value_made c d e z k (product p a b at u v is eu ev h) =
      let x = parts_plain kinds in_frame e p a b at is k.plain in
      let m = subst (λ q. is_rmi q ≡ true) eu h.first in
      let n = subst (λ q. is_rmi q ≡ true) ev h.second in
      let t = words_of p a b z (mul_group p h.multiplying) (rmi_no_truth b n) (parts_of e p a b at (word z) is k.typed) in
      made_product c d z e p a b at h.multiplying is (no_flag b x.second n) (not_numbers kinds in_frame a b x.first x.second x.none) (word_there kinds in_frame a z x.first t.0 m) (word_there kinds in_frame b z x.second t.1 n)
      (pinned_taken kinds in_frame c z k.first_plain (k.first_holds (mul_layer p a b at (out-Expr e) is h.multiplying)) h.high) (pinned_taken kinds in_frame d z k.last_plain k.last_holds h.low)
  value_made c d e z k (carried p q a b y f at inner is ia g l r j m n) =
      let u = parts_plain kinds in_frame e p a f at is k.plain in
      let v = parts_plain kinds in_frame a q b y inner ia u.first in
      let s = sums p q g in
      let flag = flags_same kinds in_frame f u.second ∙ j in
      let h = carried_by p a f (word z) s.first (all_counted kinds in_frame f u.second) flag (parts_of e p a f at (word z) is k.typed) in
      let t = words_of q b y z (sum_group q s.second) (rmi_no_truth y n) (parts_of a q b y inner (word z) ia h.first) in
      made_carried c d z e a p q b y f at inner g is ia flag (not_numbers kinds in_frame b y v.first v.second v.none) (word_there kinds in_frame b z v.first t.0 m) (word_there kinds in_frame y z v.second t.1 n)
      (flag_there kinds in_frame f u.second j) (flag_taken kinds in_frame c k.first_plain l) (word_taken kinds in_frame d z k.last_plain k.last_holds r)

  -- ---- `c, d op= e`
  module _ (asked : Asked) (c d : Lval) (p : BinOp) (e r : Expr) (at : Span) (z : Size) (read : as_expr d ≡ Some r) (known : AreTyped c d (Some p) e z) (both : Operates p (value r) (value e) (word z)) where
    plain_made : PairFits (dest_of c) (dest_of d) (values.Two p (itself d) (beside asked d None e)) → Made c d z (expr.Bin p r e at)
    plain_made (inl h) =
        let t = words_of p r e z (add_group p h.0) (rmi_no_truth e h.1.second) both in
        let l = word_taken kinds in_frame d z known.last_plain known.last_holds h.1.to in
        made_sum c d z (expr.Bin p r e at) p r e at h.0 (out_bin p r e at) (no_flag e known.plain h.1.second) (no_left_number (is_number (term_of r)) (is_number (term_of e)) (read_number d r read))
        (read_word d r z read l) (word_there kinds in_frame e z known.plain t.1 h.1.second) (flag_taken kinds in_frame c known.first_plain h.1.lead) l
    plain_made (inr h) =
        let t = words_of p r e z (mul_group p h.multiplying) (rmi_no_truth e h.second) both in
        let l = pinned_taken kinds in_frame d z known.last_plain known.last_holds h.low in
        made_product c d z (expr.Bin p r e at) p r e at h.multiplying (out_bin p r e at) (no_flag e known.plain h.second) (no_left_number (is_number (term_of r)) (is_number (term_of e)) (read_number d r read))
        (read_pinned d r z read l) (word_there kinds in_frame e z known.plain t.1 h.second) (pinned_taken kinds in_frame c z known.first_plain (known.first_holds (mul_is p h.multiplying)) h.high) l

    carried_made : (q : BinOp) (a f : Expr) (inner : Span) → out-Expr e ≡ Expr-F.Bin q a f inner → carries p q ≡ true → is_flag (class_of f) ≡ true
        → PairFits (dest_of c) (dest_of d) (values.Carry p (itself d) (beside asked d None a)) → Made c d z (expr.Bin q (expr.Bin p r a at) f at)
    carried_made q a f inner is g j h =
        let v = parts_plain kinds in_frame e q a f inner is known.plain in
        let s = sums p q g in
        let flag = flags_same kinds in_frame f v.second ∙ j in
        let t = words_of p r e z (sum_group p s.first) (λ u. sum_typed q a f truth s.second (parts_of e q a f inner truth is u) tt) both in
        let k = carried_by q a f (word z) s.second (all_counted kinds in_frame f v.second) flag (parts_of e q a f inner (word z) is t.1) in
        let l = word_taken kinds in_frame d z known.last_plain known.last_holds h.to in
        made_carried c d z (expr.Bin q (expr.Bin p r a at) f at) (expr.Bin p r a at) q p r a f at at (turned p q g) (out_bin q (expr.Bin p r a at) f at) (out_bin p r a at) flag
        (no_left_number (is_number (term_of r)) (is_number (term_of a)) (read_number d r read)) (read_word d r z read l) (word_there kinds in_frame a z v.first k.first h.second) (flag_there kinds in_frame f v.second j)
        (flag_taken kinds in_frame c known.first_plain h.lead) l
      where
        turned : (p q : BinOp) → carries p q ≡ true → carries q p ≡ true
        turned op.Add op.Add e = refl
        turned op.Sub op.Sub e = refl
        turned p q e = absurd (false≢true e)

    chosen_made : (t : Bool) (q : BinOp) (a f : Expr) (inner : Span) → out-Expr e ≡ Expr-F.Bin q a f inner → (carries p q && is_flag (class_of f)) ≡ t
        → PairFits (dest_of c) (dest_of d) (if t then values.Carry p (itself d) (beside asked d None a) else values.Two p (itself d) (beside asked d None e))
        → Made c d z (if t then expr.Bin q (expr.Bin p r a at) f at else expr.Bin p r e at)
    chosen_made true q a f inner is g h =
        let k = and_parts (carries p q) (is_flag (class_of f)) g in
        carried_made q a f inner is k.0 k.1 h
    chosen_made false q a f inner is g h = plain_made h

    same_test : (q : BinOp) (a f : Expr) (inner : Span) → out-Expr e ≡ Expr-F.Bin q a f inner → (carries p q && is_flag (class_of f)) ≡ (carries p q && runs.is_flag f)
    same_test q a f inner is = ap (λ b. carries p q && b) (sym (flags_same kinds in_frame f (parts_plain kinds in_frame e q a f inner is known.plain).second))

    updated_made : (l : Layer) → out-Expr e ≡ l → PairFits (dest_of c) (dest_of d) (update_layer asked d p e l) → Made c d z (updated_layer p r e at l)
    updated_made (Expr-F.Bin q a f inner) is h =
        subst (λ b. Made c d z (if b then expr.Bin q (expr.Bin p r a at) f at else expr.Bin p r e at)) (same_test q a f inner is)
        (chosen_made (carries p q && is_flag (class_of f)) q a f inner is refl h)
    updated_made (Expr-F.Num n i) is h = plain_made h
    updated_made (Expr-F.Expr::Bool b i) is h = plain_made h
    updated_made (Expr-F.Var v) is h = plain_made h
    updated_made (Expr-F.Cell v i) is h = plain_made h
    updated_made (Expr-F.Load m) is h = plain_made h
    updated_made (Expr-F.Neg a i) is h = plain_made h
    updated_made (Expr-F.Not a i) is h = plain_made h
    updated_made (Expr-F.Cast y s a i) is h = plain_made h

  -- ---- what is assigned to is read, where it is changed
  read_there : (asked : Asked) (c d : Lval) (p : BinOp) (e : Expr) → PairFits (dest_of c) (dest_of d) (update_layer asked d p e (out-Expr e)) → is_rmi (dest_of d) ≡ true
  read_there asked c d p e h = by_layer (out-Expr e) h
    where
      of_two : (e : Expr) → PairFits (dest_of c) (dest_of d) (values.Two p (itself d) (beside asked d None e)) → is_rmi (dest_of d) ≡ true
      of_two e (inl h) = h.1.first
      of_two e (inr h) = h.first

      by_test : (t : Bool) (a : Expr) → PairFits (dest_of c) (dest_of d) (if t then values.Carry p (itself d) (beside asked d None a) else values.Two p (itself d) (beside asked d None e)) → is_rmi (dest_of d) ≡ true
      by_test true a h = h.first
      by_test false a h = of_two e h

      by_layer : (l : Layer) → PairFits (dest_of c) (dest_of d) (update_layer asked d p e l) → is_rmi (dest_of d) ≡ true
      by_layer (Expr-F.Bin q a f inner) h = by_test (carries p q && is_flag (class_of f)) a h
      by_layer (Expr-F.Num n i) h = of_two e h
      by_layer (Expr-F.Expr::Bool b i) h = of_two e h
      by_layer (Expr-F.Var v) h = of_two e h
      by_layer (Expr-F.Cell v i) h = of_two e h
      by_layer (Expr-F.Load m) h = of_two e h
      by_layer (Expr-F.Neg a i) h = of_two e h
      by_layer (Expr-F.Not a i) h = of_two e h
      by_layer (Expr-F.Cast y s a i) h = of_two e h

  skip_read : (d : Lval) → is_rmi (dest_of d) ≡ true → as_expr d ≡ None → ⊥
  skip_read (lval.Skip at) h e = false≢true h
  skip_read (lval.Var v) h e = some_not (expr.Var v) e
  skip_read (lval.Cell v i) h e = some_not (expr.Cell v i) e
  skip_read (lval.Store a) h e = some_not (expr.Load a) e

  -- ---- the whole
  record HasWhole (c d : Lval) (o : Option BinOp) (e : Expr) (z : Size) : Type 0 where
    pub whole : Expr
    pub is : whole_of (Some d) o e ≡ Some whole
    pub made : Made c d z whole

  -- what the row tells of the value
  abbrev RowOf : Asked → Lval → Lval → Option BinOp → Expr → Type 0
  RowOf asked c d o e = PairValue asked c d o e

  has_whole : (asked : Asked) (c d : Lval) (o : Option BinOp) (e : Expr) (z : Size) → whole_array d ≡ None → AreTyped c d o e z → RowOf asked c d o e → HasWhole c d o e z
  has_whole asked c d None e z n k m = record { whole = e; is = refl; made = value_made c d e z k (layer_row asked (dest_of c) d e (out-Expr e) refl m) }
  has_whole asked c d (Some p) e z n k m = by_read (as_expr d) refl k.typed
    where
      fits : PairFits (dest_of c) (dest_of d) (update_layer asked d p e (out-Expr e))
      fits = m

      by_read : (r : Option Expr) → as_expr d ≡ r → HasType (value_term (Some p) d e) (word z) → HasWhole c d (Some p) e z
      by_read None s t = absurd (skip_read d (read_there asked c d p e fits) s)
      by_read (Some r) s (judged.updated h) =
          record {
            whole = updated_layer p r e (left_span d) (out-Expr e);
            is = ap (λ x. updated x p e (left_span d)) s;
            made = updated_made asked c d p e r (left_span d) z s k (read_operates p d r e (word z) s n h) (out-Expr e) refl fits;
          }

  -- ---- sizes
  abbrev IsOr : Option Size → Size → Type 0
  IsOr x z = (x ≡ Some z) ⊎ (x ≡ None)

  first_of_three : (a b c : Option Size) (z : Size) → IsOr a z → IsOr b z → (a ≡ Some z) ⊎ ((b ≡ Some z) ⊎ (c ≡ Some z)) → option_or (option_or a (option_or b None)) c ≡ Some z
  first_of_three a b c z p q (inl e) = ap (λ x. option_or (option_or x (option_or b None)) c) e
  first_of_three a b c z (inl p) q (inr e) = ap (λ x. option_or (option_or x (option_or b None)) c) p
  first_of_three a b c z (inr p) q (inr (inl e)) = ap (λ x. option_or (option_or x (option_or b None)) c) p ∙ ap (λ x. option_or (option_or x None) c) e
  first_of_three a b c z (inr p) (inl q) (inr (inr e)) = ap (λ x. option_or (option_or x (option_or b None)) c) p ∙ ap (λ x. option_or (option_or x None) c) q
  first_of_three a b c z (inr p) (inr q) (inr (inr e)) = ap (λ x. option_or (option_or x (option_or b None)) c) p ∙ ap (λ x. option_or (option_or x None) c) q ∙ e

  holds_or : (d : Lval) (z : Size) → Holds (word z) d → IsOr (left_form d).size z
  holds_or d z (inl g) = inl (wants_size d z g)
  holds_or d z (inr g) = inr (leaves_size d (word z) g)

  inline_rm : (k : Known) → is_inline_int k ≡ true → is_rm (var_class k) ≡ true → ⊥
  inline_rm None i e = false≢true e
  inline_rm (Some d) i e = by_kind d.storage d.kind i e
    where
      by_kind : (s : Storage) (k : known.Kind) → inline_int s k ≡ true → is_rm (class_at s k) ≡ true → ⊥
      by_kind storage.Inline scope.Int i e = false≢true e
      by_kind s k i e = false≢true i

  bool_rm : (k : Known) → lefts.IsBool k → is_rm (var_class k) ≡ true → ⊥
  bool_rm None b e = b
  bool_rm (Some d) b e = by_kind d.storage d.kind b e
    where
      by_kind : (s : Storage) (k : known.Kind) → lefts.BoolKind k → is_rm (class_at s k) ≡ true → ⊥
      by_kind s scope.Int b e = b
      by_kind storage.Reg scope.Truth b e = false≢true e
      by_kind storage.Stack scope.Truth b e = false≢true e
      by_kind storage.Inline scope.Truth b e = false≢true e
      by_kind s (scope.Word z) b e = b
      by_kind s (scope.Array z) b e = b

  -- the type of a value that goes to a register or memory
  record IsWordTo (o : Option BinOp) (d : Lval) (e : Expr) : Type 0 where
    pub size : Size
    pub holds : Holds (word size) d
    pub typed : HasType (value_term o d e) (word size)
    pub said : ((left_form d).size ≡ Some size) ⊎ ((value_typing o d e).form.size ≡ Some size)

  word_to : (o : Option BinOp) (d : Lval) (e : Expr) → is_rm (dest_of d) ≡ true → Takes d (value_term o d e) → IsWordTo o d e
  word_to o d e r (lefts.wanted p (lefts.number {v = v} i) t) = absurd (inline_rm (known_of v) i r)
  word_to o d e r (lefts.wanted p (lefts.bool {v = v} b) t) = absurd (bool_rm (known_of v) b r)
  word_to o d e r (lefts.wanted p (lefts.variable {v = v} {z = z} g) t) = record { size = z; holds = inl (lefts.variable g); typed = t; said = inl (wants_size (lval.Var v) z (lefts.variable g)) }
  word_to o d e r (lefts.wanted p (lefts.cell {v = v} {i = i} {z = z} a x) t) = record { size = z; holds = inl (lefts.cell a x); typed = t; said = inl (wants_size (lval.Cell v i) z (lefts.cell a x)) }
  word_to o d e r (lefts.wanted p (lefts.access {a = a} {z = z} g x) t) = record { size = z; holds = inl (lefts.access g x); typed = t; said = inl (wants_size (lval.Store a) z (lefts.access g x)) }
  word_to o d e r (lefts.left p lefts.nothing own t) = absurd (false≢true r)
  word_to o d e r (lefts.left p (lefts.array {v = v} a) own t) = absurd (known_array_rm (known_of v) a r)
  word_to o d e r (lefts.left p (lefts.number {v = v} n i g) own t) = absurd (known_number_rm (known_of v) n r)
  word_to o d e r (lefts.left p (lefts.access {a = a} {z = z} g x) (lefts.sized y) t) =
      record { size = z; holds = inr (lefts.access g x); typed = t; said = inr (sized_term o (lval.Store a) e z t y) }

  -- ---- what is no product goes to a register or memory, and a product has a size
  no_product : (b : Bool) → b ≡ false → b ≡ true → ⊥
  no_product b f t = false≢true (sym f ∙ t)

  two_rm : (c d : Lval) (p : BinOp) (a o : Operand) → (multiplies p ≡ true → ⊥) → PairFits (dest_of c) (dest_of d) (values.Two p a o) → is_rm (dest_of d) ≡ true
  two_rm c d p a o n (inl h) = h.1.to
  two_rm c d p a o n (inr h) = absurd (n h.multiplying)

  row_rm : (asked : Asked) (c d : Lval) (o : Option BinOp) (e : Expr) → is_product o e ≡ false → RowOf asked c d o e → is_rm (dest_of d) ≡ true
  row_rm asked c d None e n m = by_row (layer_row asked (dest_of c) d e (out-Expr e) refl m)
    where
      by_row : PairRow (dest_of c) (dest_of d) e → is_rm (dest_of d) ≡ true
      by_row (sum p a b at is g l r i j) = r
      by_row (carried p q a b y f at inner is ia g l r k i j) = r
      by_row (product p a b at u v is eu ev h) = absurd (no_product (product_layer (out-Expr e)) n (mul_layer p a b at (out-Expr e) is h.multiplying))
  row_rm asked c d (Some p) e n m = by_layer (out-Expr e) (m)
    where
      no_mul : multiplies p ≡ true → ⊥
      no_mul h = no_product (is_mul p) n (mul_is p h)

      by_test : (t : Bool) (a : Expr) → PairFits (dest_of c) (dest_of d) (if t then values.Carry p (itself d) (beside asked d None a) else values.Two p (itself d) (beside asked d None e)) → is_rm (dest_of d) ≡ true
      by_test true a h = h.to
      by_test false a h = two_rm c d p (itself d) (beside asked d None e) no_mul h

      by_layer : (l : Layer) → PairFits (dest_of c) (dest_of d) (update_layer asked d p e l) → is_rm (dest_of d) ≡ true
      by_layer (Expr-F.Bin q a f inner) h = by_test (carries p q && is_flag (class_of f)) a h
      by_layer (Expr-F.Num x i) h = two_rm c d p (itself d) (beside asked d None e) no_mul h
      by_layer (Expr-F.Expr::Bool b i) h = two_rm c d p (itself d) (beside asked d None e) no_mul h
      by_layer (Expr-F.Var v) h = two_rm c d p (itself d) (beside asked d None e) no_mul h
      by_layer (Expr-F.Cell v i) h = two_rm c d p (itself d) (beside asked d None e) no_mul h
      by_layer (Expr-F.Load x) h = two_rm c d p (itself d) (beside asked d None e) no_mul h
      by_layer (Expr-F.Neg a i) h = two_rm c d p (itself d) (beside asked d None e) no_mul h
      by_layer (Expr-F.Not a i) h = two_rm c d p (itself d) (beside asked d None e) no_mul h
      by_layer (Expr-F.Cast y s a i) h = two_rm c d p (itself d) (beside asked d None e) no_mul h

  record AreUnsized (a b : Expr) : Type 0 where
    pub first : HasType (value a) place.unsized
    pub second : HasType (value b) place.unsized

  unsized_operands : (p : BinOp) (a b : Expr) → multiplies p ≡ true → (HasType (value b) truth → ⊥) → Operates p (value a) (value b) place.unsized → AreUnsized a b
  unsized_operands p a b g n (judged.arithmetic h k m x y) = record { first = x; second = y }
  unsized_operands p a b g n (judged.carry s k x y) = absurd (n y)
  unsized_operands p a b g n (judged.shift h k m x y) = absurd (shift_not (sym h ∙ mul_group p g))

  add_mul : (p : BinOp) → adds p ≡ true → multiplies p ≡ true → ⊥
  add_mul op.Mul a m = false≢true a
  add_mul p a m = false≢true m

  layer_mul : (p : BinOp) (a b : Expr) (at : Span) (l : Layer) → l ≡ Expr-F.Bin p a b at → product_layer l ≡ true → multiplies p ≡ true
  layer_mul op.Mul a b at l is h = refl
  layer_mul p a b at l is h = absurd (false≢true (sym (ap product_layer is) ∙ h))

  carried_mul : (p q : BinOp) → carries p q ≡ true → multiplies p ≡ true → ⊥
  carried_mul op.Add op.Add e m = false≢true m
  carried_mul op.Sub op.Sub e m = false≢true m
  carried_mul p q e m = false≢true e

  leaves_read : (d : Lval) → IsPlainLeft kinds in_frame d → is_rmi (dest_of d) ≡ true → Leaves d place.unsized → ⊥
  leaves_read d x h lefts.nothing = false≢true h
  leaves_read d x h (lefts.array {v = v} a) = array_rmi (known_of v) a h
  leaves_read d (to_variable x) h (lefts.number {v = v} n i t) = no_number kinds in_frame v x n

  no_numbers : (asked : Asked) (c d : Lval) (o : Option BinOp) (e : Expr) → IsPlainLeft kinds in_frame d → RowOf asked c d o e → is_product o e ≡ true → Leaves c place.unsized → Leaves d place.unsized → HasType (value_term o d e) place.unsized → ⊥
  no_numbers asked c d None e x m n lc ld t = by_row (layer_row asked (dest_of c) d e (out-Expr e) refl m)
    where
      by_row : PairRow (dest_of c) (dest_of d) e → ⊥
      by_row (sum p a b at is g l r i j) = add_mul p g (layer_mul p a b at (out-Expr e) is n)
      by_row (carried p q a b y f at inner is ia g l r k i j) = carried_mul p q g (layer_mul p a f at (out-Expr e) is n)
      by_row (product p a b at u v is eu ev h) =
          let y = unsized_operands p a b h.multiplying (rmi_no_truth b (subst (λ q. is_rmi q ≡ true) ev h.second)) (parts_of e p a b at place.unsized is t) in
          four_none (class_size (dest_of c)) (class_size (dest_of d)) (class_size u.class) (class_size v.class) (left_none c lc) (left_none d ld) (ap class_size eu ∙ operand_none a y.first) (ap class_size ev ∙ operand_none b y.second) h.long
  no_numbers asked c d (Some p) e x m n lc ld t =
      leaves_read d x (read_there asked c d p e (m)) ld

  -- ---- the assignment
  module _ (asked : Asked) (c d : Lval) (o : Option BinOp) (e : Expr) (pc : IsPlainLeft kinds in_frame c) (pd : IsPlainLeft kinds in_frame d) (pe : IsPlainExpr kinds in_frame e) (m : RowOf asked c d o e) (v : Values (c ∷ d ∷ []) o e) where
    lefts_fine : All FineLeft (c ∷ d ∷ [])
    lefts_fine = row_fine asked c d o e m

    both_counted : All IsCountedLeft (c ∷ d ∷ [])
    both_counted = lefts_counted kinds in_frame (c ∷ d ∷ []) lefts_fine (All-cons (IsPlainLeft kinds in_frame) c (d ∷ []) pc (All-cons (IsPlainLeft kinds in_frame) d [] pd (All-nil (IsPlainLeft kinds in_frame))))

    last_counted : IsCountedLeft d
    last_counted = All-head IsCountedLeft d [] (All-tail IsCountedLeft c (d ∷ []) both_counted)

    pair_size : (w : Expr) → whole_of (Some d) o e ≡ Some w → option_or (left_sizes (c ∷ d ∷ [])) (own_size w) ≡ option_or (option_or (left_form c).size (option_or (left_form d).size None)) (value_typing o d e).form.size
    pair_size w is = assignment_law (c ∷ d ∷ []) d o e w refl is both_counted (all_counted kinds in_frame e pe) v

    paired_by : (z : Size) → AreTyped c d o e z → IsOr (left_form c).size z → IsOr (left_form d).size z → ((left_form c).size ≡ Some z) ⊎ (((left_form d).size ≡ Some z) ⊎ ((value_typing o d e).form.size ≡ Some z)) → IsPaired kinds in_frame c d o e
    paired_by z k a b s =
        let w = has_whole asked c d o e z last_counted.1 k m in
        record {
          pair = w.made.pair;
          size = z;
          whole = w.whole;
          is = w.is;
          sized = pair_size w.whole w.is ∙ first_of_three (left_form c).size (left_form d).size (value_typing o d e).form.size z a b s;
          first = w.made.first;
          last = w.made.last;
          value = w.made.value;
        }

    flagged : is_product o e ≡ false → IsFlag c → Takes d (value_term o d e) → IsPaired kinds in_frame c d o e
    flagged n f t =
        let x = word_to o d e (row_rm asked c d o e n m) t in
        paired_by x.size (record { plain = pe; first_plain = pc; last_plain = pd; typed = x.typed; last_holds = x.holds; first_holds = λ h. absurd (no_product (is_product o e) n h) })
        (inr (flag_none c f)) (holds_or d x.size x.holds) (inr x.said)

    says_one : (z : Size) → Wants c (word z) ⊎ (Wants d (word z) ⊎ Says (value_term o d e) z) → HasType (value_term o d e) (word z) → ((left_form c).size ≡ Some z) ⊎ (((left_form d).size ≡ Some z) ⊎ ((value_typing o d e).form.size ≡ Some z))
    says_one z (inl g) t = inl (wants_size c z g)
    says_one z (inr (inl g)) t = inr (inl (wants_size d z g))
    says_one z (inr (inr y)) t = inr (inr (sized_term o d e z t y))

    multiplied : is_product o e ≡ true → IsProduct c d (value_term o d e) → IsPaired kinds in_frame c d o e
    multiplied n (lefts.numbers a b t) = absurd (no_numbers asked c d o e pd m n a b t)
    multiplied n (lefts.words z y a b t) =
        paired_by z (record { plain = pe; first_plain = pc; last_plain = pd; typed = t; last_holds = b; first_holds = λ h. a }) (holds_or c z a) (holds_or d z b) (says_one z y t)

  paired_there : (asked : Asked) (c d : Lval) (o : Option BinOp) (e : Expr) → IsPlainLeft kinds in_frame c → IsPlainLeft kinds in_frame d → IsPlainExpr kinds in_frame e → RowOf asked c d o e → Values (c ∷ d ∷ []) o e → IsPaired kinds in_frame c d o e
  paired_there asked c d o e pc pd pe m (lefts.product n p) = multiplied asked c d o e pc pd pe m (lefts.product n p) n p
  paired_there asked c d o e pc pd pe m (lefts.flagged n f t) = flagged asked c d o e pc pd pe m (lefts.flagged n f t) n f t

pub pairs_are_fine : PairsAreFine
pairs_are_fine kinds in_frame c d o e pc pd pe v h = paired_there kinds in_frame h.asked c d o e pc pd pe h.fits v
