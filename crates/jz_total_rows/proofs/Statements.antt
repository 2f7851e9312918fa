-- A typed assignment that the expansion leaves, and that is covered, has operations.
use Rattle.std.proofs.Common.{◌≡◌, Bool, true, false, not, ◌&&◌, ◌||◌, List, [], ◌∷◌, Option, Some, None, refl, sym, ap, ◌∙◌, subst, inl, inr, if◌then◌else◌}
use Rattle.std.specs.List.{list_any}
use Rattle.std.specs.Option.{option_or}
use Rattle.std.proofs.lemmas.Bool.{false≢true, and_parts}
use Rattle.std.proofs.lemmas.List.Folds.{list_any-append}
use Rattle.jz_words.specs.declared.size.Size.{Size}
use Rattle.jz_tree.specs.Span.{Span}
use Rattle.jz_tree.specs.Operators.{carries, divides, is_shift}
use Rattle.jz_tree.specs.declared.expr.BinOp.{BinOp}
use Rattle.jz_tree.specs.declared.expr.Expr.{Expr}
use Rattle.jz_tree.specs.declared.expr.Expr.TheVariants as expr
use Rattle.jz_tree.specs.declared.expr.Expr.TheOpen.{Expr-F}
use Rattle.jz_tree.specs.declared.expr.Expr.TheViews.{out-Expr, roll-Expr, roll-out-Expr}
use Rattle.jz_tree.specs.declared.expr.Var.{Var}
use Rattle.jz_tree.specs.declared.stmt.Lval.{Lval}
use Rattle.jz_tree.specs.declared.stmt.Lval.TheVariants as lval
use Rattle.jz_tree.specs.declared.stmt.Rhs.{Rhs}
use Rattle.jz_tree.specs.declared.stmt.Rhs.TheVariants as rhs
use Rattle.jz_tree.specs.declared.stmt.StmtKind.TheVariants as stmt
use Rattle.jz_tree.specs.declared.stmt.StmtKind.TheOpen.{StmtKind-F}
use Rattle.jz_tree.specs.declared.stmt.StmtKind.TheViews.{out-StmtKind, out-roll-StmtKind}
use Rattle.jz_type_names.specs.Kinds.{known_of}
use Rattle.jz_type_sizes.specs.declared.operators.Group.TheVariants as group
use Rattle.jz_type_sizes.specs.Operators.{group_of, group_size}
use Rattle.jz_select.specs.declared.class.Class.{Class}
use Rattle.jz_select.specs.declared.class.Class.TheVariants as class
use Rattle.jz_select.specs.declared.pattern.Pattern.{Pattern}
use Rattle.jz_select.specs.declared.shape.Value.{Value}
use Rattle.jz_select.specs.declared.shape.Value.TheVariants as values
use Rattle.jz_select.specs.declared.shape.Shape as rowed
use Rattle.jz_select.specs.declared.shape.Shape.TheVariants as shapes
use Rattle.jz_select.specs.Places.{Layer}
use Rattle.jz_select.specs.Operands.{var_class, class_of, dest_of}
use Rattle.jz_select.specs.Rows.{is_r, is_m, is_i, is_rm, is_rmi, adds, joins_bits, multiplies, are_inline, copy_row, arithmetic_row, carrying_row, unary_row, times_row, times_inline_row, quotient_row, inline_shift_row, masked_shift_row, zero_extension_row, sign_extension_row, truncation_row}
use Rattle.jz_select.specs.Selected.{Row, rows, FirstMatches, Tells, IsSelected}
use Rattle.jz_select.specs.Shapes.{whichever, value_layer, update_layer, assign_of, kind_layer, shape_of}
use Rattle.jz_judgement.specs.Places as place
use Rattle.jz_judgement.specs.HasType as judged
use Rattle.jz_judgement.specs.HasType.{Term, value, left, result, HasType, Says}
use Rattle.jz_judgement.specs.Lefts as lefts
use Rattle.jz_judgement.specs.Lefts.{IsBool, Wants, Holds, Own, Takes}
use Rattle.jz_run_laws.proofs.Sizes.{operation_size}
use Rattle.jz_row_laws.proofs.Booleans.{or_left, or_right}
use Rattle.jz_row_laws.proofs.Copied.{Matches}
use Rattle.jz_meaning.specs.Values.{size_of, own_size}
use Rattle.jz_meaning.specs.Assignments as assignments
use Rattle.jz_meaning.specs.Assignments.{left_size, as_expr, updated_layer}
use Rattle.jz_homes.proofs.Parts.{access_size}
use Rattle.jz_limits.proofs.Layers.{own_var}
use Rattle.jz_operations.proofs.Somes.{same_some}
use Rattle.jz_homes.specs.Homes.{Homes}
use Rattle.jz_total_rows.specs.Expanded as expanded
use Rattle.jz_total_rows.specs.Expanded.{HasHome, a_word, a_flag, a_scalar, an_array, IsExpandedLeft}
use Rattle.jz_total_rows.proofs.Forms.{home_not_inline}
use Rattle.jz_total_rows.proofs.OwnSizes.{own_cell, own_load, own_bin}
use Rattle.jz_total_rows.proofs.Meets.{A}
use Rattle.jz_total_rows.proofs.Operands.{no_array_rm, no_number_home}
use Rattle.jz_total_rows.proofs.Assigned.{none_more, either, are_carries}

-- ---- one of the rows matches
first_any : (rs : List Row) (s : rowed.Shape) (r : Row) → FirstMatches rs s r → list_any (λ (q : Row). q.1 s) rs ≡ true
first_any rs s r (before, after, parts, holds, none) =
    ap (λ xs. list_any (λ (q : Row). q.1 s) xs) parts
    ∙ (list_any-append (λ (q : Row). q.1 s) before (r ∷ after)
    ∙ or_right (list_any (λ (q : Row). q.1 s) before) (list_any (λ (q : Row). q.1 s) (r ∷ after)) (or_left (r.1 s) (list_any (λ (q : Row). q.1 s) after) holds))

told_any : (s : rowed.Shape) (p : Pattern) → Tells rows s (Some p) → Matches s
told_any s p (r, is, first) = first_any rows s r first

out_assign : (to : List Lval) (o : Option BinOp) (r : Rhs) (c : Option Expr) → out-StmtKind (stmt.Assign to o r c) ≡ StmtKind-F.Assign to o r c
out_assign to o r c = ap out-StmtKind (sym (stmt.rolls-Assign to o r c)) ∙ out-roll-StmtKind (StmtKind-F.Assign to o r c)

pub assign_matches : (d : Lval) (o : Option BinOp) (e : Expr) (c : Option Expr) (p : Pattern) → IsSelected (stmt.Assign (d ∷ []) o (rhs.Value e) c) (Some p)
    → Matches (kind_layer (whichever A) (StmtKind-F.Assign (d ∷ []) o (rhs.Value e) c))
unfolding IsSelected
assign_matches d o e c p h =
    subst (λ k. Matches (kind_layer (whichever A) k)) (out_assign (d ∷ []) o (rhs.Value e) c)
    (told_any (shape_of (whichever A) (stmt.Assign (d ∷ []) o (rhs.Value e) c)) p (h A))

-- ---- each row has a destination in a register or in memory
r_rm : (c : Class) → is_r c ≡ true → is_rm c ≡ true
r_rm c h = or_left (is_r c) (is_m c) h

module _ (d c : Class) where
  abbrev S : Value → rowed.Shape
  S v = shapes.Assign None d c v

  abbrev P : Type 0
  P = is_rm d ≡ true

  by_move : (v : Value) → copy_row (S v) ≡ true → P
  by_move v h = (and_parts (is_rm d) _ h).0

  by_cast : (b : Bool) (r : Bool) → (b && (is_r d && r)) ≡ true → P
  by_cast b r h = r_rm d (and_parts (is_r d) r (and_parts b _ h).1).0

  dest_rm : (v : Value) → Matches (S v) → P
  dest_rm values.Alone h = either P (copy_row (S values.Alone)) false (by_move values.Alone) (none_more P) h
  dest_rm (values.One a) h =
      let v : Value = values.One a in either P (copy_row (S v)) (unary_row (S v) || false) (by_move v) (either P (unary_row (S v)) false (λ e. (and_parts (is_rm d) _ e).0) (none_more P)) h
  dest_rm (values.Carry o a b) h =
      let v : Value = values.Carry o a b in
      either P (copy_row (S v)) (carrying_row (S v) || false) (by_move v)
      (either P (carrying_row (S v)) false (λ e. (and_parts (is_rm d) _ (and_parts (not (are_inline a b)) _ (and_parts (is_rmi b.class) _ e).1).1).0) (none_more P)) h
  dest_rm (values.Cast z s k) h =
      let v : Value = values.Cast z s k in
      either P (copy_row (S v)) (zero_extension_row (S v) || (sign_extension_row (S v) || (truncation_row (S v) || false))) (by_move v)
      (either P (zero_extension_row (S v)) (sign_extension_row (S v) || (truncation_row (S v) || false)) (by_cast (not s) _)
      (either P (sign_extension_row (S v)) (truncation_row (S v) || false) (by_cast s _) (either P (truncation_row (S v)) false (by_cast (not s) _) (none_more P))))
      h
  dest_rm (values.Two o a b) h =
      let v : Value = values.Two o a b in
      let w : rowed.Shape = S v in
      either P (copy_row w) (arithmetic_row w || (times_row w || (times_inline_row w || (quotient_row w || (inline_shift_row w || (masked_shift_row w || false)))))) (by_move v)
      (either P (arithmetic_row w) (times_row w || (times_inline_row w || (quotient_row w || (inline_shift_row w || (masked_shift_row w || false)))))
      (λ e. (and_parts (is_rm d) _ (and_parts (not (are_inline a b)) _ (and_parts (is_rmi b.class) _ (and_parts (adds o || (joins_bits o && true)) _ e).1).1).1).0)
      (either P (times_row w) (times_inline_row w || (quotient_row w || (inline_shift_row w || (masked_shift_row w || false)))) (λ e. r_rm d (and_parts (is_r d) _ (and_parts (multiplies o) _ e).1).0)
      (either P (times_inline_row w) (quotient_row w || (inline_shift_row w || (masked_shift_row w || false))) (λ e. r_rm d (and_parts (is_r d) _ (and_parts (multiplies o) _ e).1).0)
      (either P (quotient_row w) (inline_shift_row w || (masked_shift_row w || false)) (λ e. r_rm d (and_parts (is_r d) _ (and_parts (divides o) _ e).1).0)
      (either P (inline_shift_row w) (masked_shift_row w || false) (λ e. (and_parts (is_rm d) _ (and_parts (is_i b.class) _ (and_parts (is_shift o) _ e).1).1).0)
      (either P (masked_shift_row w) false (λ e. (and_parts (is_rm d) _ (and_parts _ _ (and_parts (is_shift o) _ e).1).1).0) (none_more P)))))))
      h

pub assigned_rm : (d : Lval) (o : Option BinOp) (e : Expr) → Matches (assign_of (whichever A) None d o e) → is_rm (dest_of d) ≡ true
assigned_rm d None e h = dest_rm (dest_of d) (class_of e) (value_layer (whichever A) d (out-Expr e)) h
assigned_rm d (Some o) e h = dest_rm (dest_of d) class.Other (update_layer (whichever A) d o e (out-Expr e)) h

-- ---- the size of a typed left side
pub data OwnSize (d : Lval) (t : Term) (z : Size) : Type 0 where
  of_left : Wants d (place.word z) → OwnSize d t z
  of_right : left_size d ≡ None → Says t z → OwnSize d t z

pub record TypedLeft (d : Lval) (t : Term) : Type 0 where
  pub size : Size
  pub holds : Holds (place.word size) d
  pub typed : HasType t (place.word size)
  pub own : OwnSize d t size

left_home : (home : Homes) (v : Var) → IsExpandedLeft home (lval.Var v) → HasHome home v
left_home home v (expanded.to_variable w x) = x

no_bool_rm : (home : Homes) (v : Var) → HasHome home v → IsBool (known_of v) → is_rm (var_class (known_of v)) ≡ true → ⊥
no_bool_rm home v (a_word z n d k h) b e = subst IsBool d b
no_bool_rm home v (a_flag n d k h) b e = false≢true (sym (ap (λ q. is_rm (var_class q)) d) ∙ e)
no_bool_rm home v (a_scalar z w d k h) b e = subst IsBool d b
no_bool_rm home v (an_array z n w d c) b e = subst IsBool d b

own_of : (d : Lval) (t : Term) (z : Size) → left_size d ≡ None → Own t (place.word z) → OwnSize d t z
own_of d t z n (lefts.sized s) = of_right n s

pub typed_left : (home : Homes) (d : Lval) (t : Term) → IsExpandedLeft home d → is_rm (dest_of d) ≡ true → Takes d t → TypedLeft d t
typed_left home d t x r (lefts.wanted p (lefts.number {v} i) h) = absurd (false≢true (sym (home_not_inline home v (left_home home v x)) ∙ i))
typed_left home d t x r (lefts.wanted p (lefts.bool {v} b) h) = absurd (no_bool_rm home v (left_home home v x) b r)
typed_left home d t x r (lefts.wanted p (lefts.variable {v} {z} w) h) = record { size = z; holds = inl (lefts.variable w); typed = h; own = of_left (lefts.variable w) }
typed_left home d t x r (lefts.wanted p (lefts.cell {v} {i} {z} w k) h) = record { size = z; holds = inl (lefts.cell w k); typed = h; own = of_left (lefts.cell w k) }
typed_left home d t x r (lefts.wanted p (lefts.access {a} {z} w k) h) = record { size = z; holds = inl (lefts.access w k); typed = h; own = of_left (lefts.access w k) }
typed_left home d t x r (lefts.left p lefts.nothing o h) = absurd (false≢true r)
typed_left home d t x r (lefts.left p (lefts.array {v} a) o h) = absurd (no_array_rm home v (left_home home v x) a r)
typed_left home d t x r (lefts.left p (lefts.number {v} n i k) o h) = absurd (no_number_home home v (left_home home v x) n)
typed_left home d t x r (lefts.left p (lefts.access {a} {z} n k) o h) =
    record { size = z; holds = inr (lefts.access n k); typed = h; own = own_of (lval.Store a) t z (access_size a ∙ n) o }

-- ---- the size of the statement
pub left_first : (o : Option Size) (z : Size) (k : Option Size) → o ≡ Some z → option_or (option_or o None) k ≡ Some z
left_first o z k h = ap (λ s. option_or (option_or s None) k) h

pub right_first : (o : Option Size) (z : Size) (k : Option Size) → o ≡ None → k ≡ Some z → option_or (option_or o None) k ≡ Some z
right_first o z k h g = ap (λ s. option_or (option_or s None) k) h ∙ g

pub read_size : (d : Lval) (r : Expr) → as_expr d ≡ Some r → own_size r ≡ left_size d
read_size (lval.Skip at) r e = absurd cc
read_size (lval.Var v) r e = ap own_size (sym (same_some (expr.Var v) r e)) ∙ own_var v
read_size (lval.Cell v i) r e = ap own_size (sym (same_some (expr.Cell v i) r e)) ∙ own_cell v i
read_size (lval.Store a) r e = ap own_size (sym (same_some (expr.Load a) r e)) ∙ own_load a

arith_size : (o : BinOp) (a b : Expr) (at : Span) → group_of o ≡ group.Arith → own_size (expr.Bin o a b at) ≡ option_or (own_size a) (own_size b)
arith_size o a b at g = own_bin o a b at ∙ (operation_size o (own_size a) (own_size b) ∙ ap (λ k. group_size k (own_size a) (own_size b)) g)

-- what `d op= e` says where its left side says nothing
pub record SaysBehind (o : BinOp) (e : Expr) (z : Size) : Type 0 where
  pub arith : group_of o ≡ group.Arith
  pub says : Says (value e) z

none_some : {B : Type 0} (o : Option B) (x : B) → o ≡ None → o ≡ Some x → ⊥
none_some None x e f = absurd cc
none_some (Some y) x e f = absurd cc

left_says : (home : Homes) (d : Lval) (z : Size) → IsExpandedLeft home d → left_size d ≡ None → Says (left d) z → ⊥
left_says home d z x n (judged.set_variable {v} w) = word_size home v z (left_home home v x) w n
  where
    word_size : (home : Homes) (v : Var) (z : Size) → HasHome home v → place.IsWordOf z (known_of v) → left_size (lval.Var v) ≡ None → ⊥
    word_size home v z (a_word y m d k h) w n = none_some (left_size (lval.Var v)) y n (ap size_of k)
    word_size home v z (a_flag m d k h) w n = subst (place.IsWordOf z) d w
    word_size home v z (a_scalar y m d k h) w n = none_some (left_size (lval.Var v)) y n (ap size_of k)
    word_size home v z (an_array y m u d c) w n = subst (place.IsWordOf z) d w
left_says home d z x n (judged.set_cell {v} {i} w) = cell_size home v i z (cell_home home v i x) w n
  where
    cell_home : (home : Homes) (v : Var) (i : Expr) → IsExpandedLeft home (lval.Cell v i) → HasHome home v
    cell_home home v i (expanded.to_cell w j x y) = x

    cell_size : (home : Homes) (v : Var) (i : Expr) (z : Size) → HasHome home v → place.IsArrayOf z (known_of v) → left_size (lval.Cell v i) ≡ None → ⊥
    cell_size home v i z (a_word y m d k h) w n = subst (place.IsArrayOf z) d w
    cell_size home v i z (a_flag m d k h) w n = subst (place.IsArrayOf z) d w
    cell_size home v i z (a_scalar y m d k h) w n = subst (place.IsArrayOf z) d w
    cell_size home v i z (an_array y m u d c) w n = none_some (left_size (lval.Cell v i)) y n (ap size_of c.0)
left_says home d z x n (judged.set_access {a} s) = none_some (left_size (lval.Store a)) z n (access_size a ∙ s)

pub behind_says : (home : Homes) (d : Lval) (o : BinOp) (e : Expr) (z : Size) → IsExpandedLeft home d → left_size d ≡ None → Says (result o d e) z → SaysBehind o e z
behind_says home d o e z x n (judged.updated k) = by_operand k
  where
    by_operand : judged.OperandSays o (left d) (value e) z → SaysBehind o e z
    by_operand (judged.first g s) = absurd (left_says home d z x n s)
    by_operand (judged.second g s) = record { arith = g; says = s }
    by_operand (judged.shifted g s) = absurd (left_says home d z x n s)

-- of a whole right side with an operation
pub updated_size : (o : BinOp) (r e : Expr) (at : Span) (z : Size) → group_of o ≡ group.Arith → own_size r ≡ None → own_size e ≡ Some z → (l : Layer) → out-Expr e ≡ l → own_size (updated_layer o r e at l) ≡ Some z
updated_size o r e at z g n s (Expr-F.Num i b) k = arith_size o r e at g ∙ (ap (λ w. option_or w (own_size e)) n ∙ s)
updated_size o r e at z g n s (Expr-F.Expr::Bool i b) k = arith_size o r e at g ∙ (ap (λ w. option_or w (own_size e)) n ∙ s)
updated_size o r e at z g n s (Expr-F.Var v) k = arith_size o r e at g ∙ (ap (λ w. option_or w (own_size e)) n ∙ s)
updated_size o r e at z g n s (Expr-F.Cell v i) k = arith_size o r e at g ∙ (ap (λ w. option_or w (own_size e)) n ∙ s)
updated_size o r e at z g n s (Expr-F.Load a) k = arith_size o r e at g ∙ (ap (λ w. option_or w (own_size e)) n ∙ s)
updated_size o r e at z g n s (Expr-F.Neg a b) k = arith_size o r e at g ∙ (ap (λ w. option_or w (own_size e)) n ∙ s)
updated_size o r e at z g n s (Expr-F.Not a b) k = arith_size o r e at g ∙ (ap (λ w. option_or w (own_size e)) n ∙ s)
updated_size o r e at z g n s (Expr-F.Cast y c a b) k = arith_size o r e at g ∙ (ap (λ w. option_or w (own_size e)) n ∙ s)
updated_size o r e at z g n s (Expr-F.Bin p a c inner) k = by_test (carries o p) (assignments.is_flag c) refl
  where
    same_group : (p : BinOp) → carries o p ≡ true → group_of p ≡ group.Arith
    same_group p h = ap group_of (are_carries o p h).same ∙ g

    whole_own : own_size e ≡ own_size (expr.Bin p a c inner)
    whole_own = ap own_size (sym (roll-out-Expr e) ∙ (ap roll-Expr k ∙ expr.rolls-Bin p a c inner))

    option_three : (x y : Option Size) → option_or (option_or None x) y ≡ option_or x y
    option_three x y = refl

    plain_size : own_size (expr.Bin o r e at) ≡ Some z
    plain_size = arith_size o r e at g ∙ (ap (λ w. option_or w (own_size e)) n ∙ s)

    by_test : (t f : Bool) → carries o p ≡ t → own_size (if t && f then expr.Bin p (expr.Bin o r a at) c at else expr.Bin o r e at) ≡ Some z
    by_test true true h =
        arith_size p (expr.Bin o r a at) c at (same_group p h)
        ∙ (ap (λ w. option_or w (own_size c)) (arith_size o r a at g ∙ ap (λ w. option_or w (own_size a)) n)
        ∙ (sym (whole_own ∙ arith_size p a c inner (same_group p h)) ∙ s))
    by_test true false h = plain_size
    by_test false f h = plain_size
