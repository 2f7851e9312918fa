-- `h, l = a * b` and `h, l *= b` have operations.
use Rattle.std.proofs.Common.{◌≡◌, Bool, true, false, ◌&&◌, [], ◌∷◌, Option, Some, None, refl, sym, ap, ◌∙◌, subst, inl, inr, if◌then◌else◌}
use Rattle.std.specs.Prelude.{◌⊎◌, not}
use Rattle.std.specs.Option.{option_or}
use Rattle.std.proofs.lemmas.Bool.{false≢true, and_parts}
use Rattle.jz_words.specs.declared.size.Size.{Size}
use Rattle.jz_io.specs.declared.span.Span.{Span}
use Rattle.jz_tree.specs.Operators.{carries}
use Rattle.jz_tree.specs.declared.expr.BinOp.{BinOp}
use Rattle.jz_tree.specs.declared.expr.BinOp.TheVariants as op
use Rattle.jz_tree.specs.declared.expr.Expr.{Expr}
use Rattle.jz_tree.specs.declared.expr.Expr.TheVariants as expr
use Rattle.jz_tree.specs.declared.expr.Expr.TheOpen.{Expr-F}
use Rattle.jz_tree.specs.declared.expr.Expr.TheViews.{out-Expr, out-Access}
use Rattle.jz_tree.specs.declared.expr.Access.{Access}
use Rattle.jz_tree.specs.declared.expr.Var.{Var}
use Rattle.jz_tree.specs.declared.stmt.Lval.{Lval}
use Rattle.jz_type_names.specs.Kinds.{known_of, is_inline}
use Rattle.jz_type_sizes.specs.Values.{is_mul, is_product}
use Rattle.jz_select.specs.declared.class.Class.{Class}
use Rattle.jz_select.specs.declared.class.Class.TheVariants as class
use Rattle.jz_select.specs.declared.class.Operand.{Operand}
use Rattle.jz_select.specs.declared.shape.Value.TheVariants as values
use Rattle.jz_select.specs.declared.shape.Shape.TheVariants as shapes
use Rattle.jz_select.specs.Places.{Layer}
use Rattle.jz_select.specs.Look.{look_of, bin_inline}
use Rattle.jz_select.specs.Operands.{var_class, inline_or, masked_class, class_layer, class_of, dest_of, operand_of}
use Rattle.jz_select.specs.Rows as table
use Rattle.jz_select.specs.Rows.{is_r, is_m, is_i, is_rm, is_rmi, is_skip, is_flag, is_long, is_pinned, class_size, product_size, computes}
use Rattle.jz_select.specs.Shapes.{whichever, itself, two_beside, carry_layer, value_layer, update_layer, assign_of}
use Rattle.jz_judgement.specs.Places as place
use Rattle.jz_judgement.specs.Places.{Goes}
use Rattle.jz_judgement.specs.HasType as judged
use Rattle.jz_judgement.specs.HasType.{Term, value, left, result, HasType, Types, Accesses, Operates, Says}
use Rattle.jz_judgement.specs.Lefts as lefts
use Rattle.jz_judgement.specs.Lefts.{Wants, Holds, IsProduct, value_term}
use Rattle.jz_row_laws.proofs.Booleans.{or_parts, or_left, or_right}
use Rattle.jz_row_laws.proofs.Copied.{Matches}
use Rattle.jz_stuck_runs.proofs.Classes.{masked_none}
use Rattle.jz_meaning.specs.Values.{own_size}
use Rattle.jz_meaning.specs.Assignments.{left_size, left_sizes, left_span, updated_layer, updated, whole_of}
use Rattle.jz_meaning.specs.Assignments as assignments
use Rattle.jz_meaning.specs.Statements.{assign}
use Rattle.jz_limits.specs.declared.operands.Role.TheVariants as role
use Rattle.jz_limits.specs.Asked.{left_access, to_register, is_free}
use Rattle.jz_operations.specs.declared.operation.Pinned.{Pinned}
use Rattle.jz_operations.specs.declared.operation.Arg.{Arg}
use Rattle.jz_operations.specs.Rows.{Frame}
use Rattle.jz_homes.specs.Homes.{Homes, IsHoming}
use Rattle.jz_homes.specs.Operands.{Leaks, IsArg}
use Rattle.jz_row_operations.specs.Rows.{NotImm}
use Rattle.jz_one_row.proofs.Outs.{out_num, out_bool, out_var, out_cell, out_load, out_neg, out_not, out_cast, out_bin}
use Rattle.jz_flag_rows.specs.Wide.{IsLong}
use Rattle.jz_flag_rows.specs.Rows.{wide_products}
use Rattle.jz_every_row.specs.Statements.{by_flags}
use Rattle.jz_total_rows.specs.Expanded.{HasHome, a_word, a_flag, a_scalar, an_array, IsExpanded, a_number, a_truth, a_variable, a_cell, a_load, a_minus, a_denial, a_cast, of_two, IsExpandedLeft}
use Rattle.jz_total_rows.proofs.Forms.{two_inline}
use Rattle.jz_total_rows.proofs.Summed.{seen}
use Rattle.jz_total_rows.proofs.Fits.{Fits}
use Rattle.jz_total_rows.proofs.Stands.{stands_place}
use Rattle.jz_total_rows.proofs.Meets.{A}
use Rattle.jz_total_rows.proofs.Operands.{of_size, typed_as, OperandAs, operand_there, left_there, left_operand, left_read}
use Rattle.jz_total_rows.proofs.Counting.{says_own}
use Rattle.jz_total_rows.proofs.KeptLimits.{two_kept}
use Rattle.jz_total_rows.proofs.Rows.{not_imm, place_not_imm}
use Rattle.jz_total_rows.proofs.Assigned.{none_more, either, first_by, second_by, at_size, beside_operand, beside_itself}
use Rattle.jz_total_rows.proofs.Whole.{first_none, free_or, left_expr}
use Rattle.jz_total_flags.specs.Ready.{HasOperations}
use Rattle.jz_total_flags.proofs.Leads.{is_times}
use Rattle.jz_total_flags.proofs.Flagged.{PairKept}
use Rattle.jz_total_flags.proofs.Lows.{PinnedLeft, pinned_left, register_size, left_register, Low, low_skip, low_register}
use Rattle.jz_total_flags.proofs.Quotients.{long_of}

-- ---- sizes
none_some : {B : Type 0} (o : Option B) (x : B) → o ≡ None → o ≡ Some x → ⊥
none_some None x e f = absurd cc
none_some (Some y) x e f = absurd cc

-- of both left sides and of the right side
three_size : (h l o : Option Size) (z : Size) → (h ≡ Some z) ⊎ (h ≡ None) → (l ≡ Some z) ⊎ (l ≡ None) → (h ≡ Some z) ⊎ ((l ≡ Some z) ⊎ (o ≡ Some z)) → option_or (option_or h (option_or l None)) o ≡ Some z
three_size h l o z (inl a) b w = ap (λ s. option_or (option_or s (option_or l None)) o) a
three_size h l o z (inr a) (inl b) w = ap (λ s. option_or (option_or s (option_or l None)) o) a ∙ ap (λ s. option_or (option_or s None) o) b
three_size h l o z (inr a) (inr b) (inl c) = absurd (none_some h z a c)
three_size h l o z (inr a) (inr b) (inr (inl c)) = absurd (none_some l z b c)
three_size h l o z (inr a) (inr b) (inr (inr c)) = ap (λ s. option_or (option_or s (option_or l None)) o) a ∙ (ap (λ s. option_or (option_or s None) o) b ∙ c)

pub or_sized : (o k : Option Size) (z : Size) → ((y : Size) → o ≡ Some y → y ≡ z) → ((y : Size) → k ≡ Some y → y ≡ z) → (y : Size) → option_or o k ≡ Some y → y ≡ z
or_sized None k z f g y e = g y e
or_sized (Some w) k z f g y e = f y e

abbrev pub AllSized : Option Size → Size → Type 0
AllSized o z = (y : Size) → o ≡ Some y → y ≡ z

pub four_sized : (h l a b : Option Size) (z : Size) → AllSized h z → AllSized l z → AllSized a z → AllSized b z → AllSized (option_or h (option_or l (option_or a b))) z
four_sized h l a b z fh fl fa fb = or_sized h (option_or l (option_or a b)) z fh (or_sized l (option_or a b) z fl (or_sized a b z fa fb))

-- ---- what has no size is in no register and no memory
access_unsized : (a : judged.AccessLayer) → Accesses a place.unsized → ⊥
access_unsized a (judged.sized y s t x) = t

load_unsized : (a : Access) → Types (Expr-F.Load a) place.unsized → ⊥
load_unsized a (judged.load x) = access_unsized (out-Access a) x

cell_unsized : (v : Var) (i : Expr) → Types (Expr-F.Cell v i) place.unsized → ⊥
cell_unsized v i (judged.cell y a t x) = t

goes_unsized : (v : Var) → Types (Expr-F.Var v) place.unsized → Goes (known_of v) place.unsized
goes_unsized v (judged.variable g) = g

variable_unsized : (home : Homes) (v : Var) → HasHome home v → Goes (known_of v) place.unsized → is_rm (var_class (known_of v)) ≡ true → ⊥
variable_unsized home v (a_word z n d k h) g e = subst (λ q. Goes q place.unsized) d g
variable_unsized home v (a_flag n d k h) g e = false≢true (sym (ap (λ q. is_rm (var_class q)) d) ∙ e)
variable_unsized home v (a_scalar z w d k h) g e = subst (λ q. Goes q place.unsized) d g
variable_unsized home v (an_array z n w d c) g e = false≢true (sym (ap (λ q. is_rm (var_class q)) d) ∙ e)

inline_no_rm : (b : Bool) (c : Class) → (is_rm c ≡ true → ⊥) → is_rm (inline_or b c) ≡ true → ⊥
inline_no_rm true c n h = false≢true h
inline_no_rm false c n h = n h

rm_at : (e : Expr) (l : Layer) → out-Expr e ≡ l → is_rm (class_of e) ≡ true → is_rm (class_layer l) ≡ true
rm_at e l s h = sym (ap (λ k. is_rm (class_layer k)) s) ∙ h

unsized_no_rm : (home : Homes) (e : Expr) → IsExpanded home e → HasType (value e) place.unsized → is_rm (class_of e) ≡ true → ⊥
unsized_no_rm home e (a_number i at) t h = false≢true (rm_at (expr.Num i at) (Expr-F.Num i at) (out_num i at) h)
unsized_no_rm home e (a_truth b at) t h = false≢true (rm_at (expr.Bool b at) (Expr-F.Expr::Bool b at) (out_bool b at) h)
unsized_no_rm home e (a_variable v x) t h = variable_unsized home v x (goes_unsized v (typed_as (expr.Var v) (Expr-F.Var v) place.unsized (out_var v) t)) (rm_at (expr.Var v) (Expr-F.Var v) (out_var v) h)
unsized_no_rm home e (a_cell v i x y) t h = cell_unsized v i (typed_as (expr.Cell v i) (Expr-F.Cell v i) place.unsized (out_cell v i) t)
unsized_no_rm home e (a_load a x) t h = load_unsized a (typed_as (expr.Load a) (Expr-F.Load a) place.unsized (out_load a) t)
unsized_no_rm home e (a_minus a at n x) t h = inline_no_rm (look_of a).inline class.Other (λ e. false≢true e) (rm_at (expr.Neg a at) (Expr-F.Neg a at) (out_neg a at) h)
unsized_no_rm home e (a_denial a at n x) t h = inline_no_rm (look_of a).inline class.Other (λ e. false≢true e) (rm_at (expr.Not a at) (Expr-F.Not a at) (out_not a at) h)
unsized_no_rm home e (a_cast y s a at x) t h = false≢true (rm_at (expr.Cast y s a at) (Expr-F.Cast y s a at) (out_cast y s a at) h)
unsized_no_rm home e (of_two o a b at n x y) t h =
    inline_no_rm (bin_inline o (look_of a) (look_of b)) (masked_class o a b) (masked_none is_rm refl refl refl o a b) (rm_at (expr.Bin o a b at) (Expr-F.Bin o a b at) (out_bin o a b at) h)

-- of a product both operands have what it has
second_unsized : (a b : Term) → Operates op.Mul a b place.unsized → HasType b place.unsized
second_unsized a b (judged.arithmetic g n m x y) = y
second_unsized a b (judged.carry s n x y) = absurd s
second_unsized a b (judged.shift g n m x y) = absurd cc

operation_of : (o : BinOp) (a b : Expr) (at : Span) (p : place.Place) → Types (Expr-F.Bin o a b at) p → Operates o (value a) (value b) p
operation_of o a b at p (judged.operation k) = k

updated_of : (o : BinOp) (d : Lval) (e : Expr) (p : place.Place) → HasType (result o d e) p → Operates o (left d) (value e) p
updated_of o d e p (judged.updated k) = k

-- ---- the row
no_carry : (p : BinOp) → carries op.Mul p ≡ false
no_carry p = refl

carry_alone : (l : Lval) (w : Layer) → carry_layer (whichever A) l op.Mul w ≡ values.Alone
carry_alone l (Expr-F.Bin p u v at) = ap (λ b. if b then values.Carry op.Mul (operand_of A l u) (operand_of A l v) else values.Alone) (no_carry p)
carry_alone l (Expr-F.Num i at) = refl
carry_alone l (Expr-F.Expr::Bool b at) = refl
carry_alone l (Expr-F.Var v) = refl
carry_alone l (Expr-F.Cell v i) = refl
carry_alone l (Expr-F.Load a) = refl
carry_alone l (Expr-F.Neg a at) = refl
carry_alone l (Expr-F.Not a at) = refl
carry_alone l (Expr-F.Cast z s a at) = refl

times_update : (l : Lval) (e : Expr) (w : Layer) → update_layer (whichever A) l op.Mul e w ≡ values.Two op.Mul (itself l) (operand_of A l e)
times_update l e (Expr-F.Bin p u v at) = ap (λ b. if b && is_flag (class_of v) then values.Carry op.Mul (itself l) (operand_of A l u) else values.Two op.Mul (itself l) (operand_of A l e)) (no_carry p)
times_update l e (Expr-F.Num i at) = refl
times_update l e (Expr-F.Expr::Bool b at) = refl
times_update l e (Expr-F.Var v) = refl
times_update l e (Expr-F.Cell v i) = refl
times_update l e (Expr-F.Load a) = refl
times_update l e (Expr-F.Neg a at) = refl
times_update l e (Expr-F.Not a at) = refl
times_update l e (Expr-F.Cast z s a at) = refl

times_updated : (r e : Expr) (here : Span) (w : Layer) → updated_layer op.Mul r e here w ≡ expr.Bin op.Mul r e here
times_updated r e here (Expr-F.Bin p u v at) = ap (λ b. if b && assignments.is_flag v then expr.Bin p (expr.Bin op.Mul r u here) v here else expr.Bin op.Mul r e here) (no_carry p)
times_updated r e here (Expr-F.Num i at) = refl
times_updated r e here (Expr-F.Expr::Bool b at) = refl
times_updated r e here (Expr-F.Var v) = refl
times_updated r e here (Expr-F.Cell v i) = refl
times_updated r e here (Expr-F.Load a) = refl
times_updated r e here (Expr-F.Neg a at) = refl
times_updated r e here (Expr-F.Not a at) = refl
times_updated r e here (Expr-F.Cast z s a at) = refl

times_row : (h l w : Class) (a b : Operand) → Matches (shapes.Assign (Some h) l w (values.Two op.Mul a b)) → table.is_product None h l a b ≡ true
times_row h l w a b m = let P : Type 0 = table.is_product None h l a b ≡ true in either P (table.is_product None h l a b) false (λ e. e) (none_more P) m

value_row : (h l : Lval) (a b : Expr) (here : Span) → Matches (assign_of (whichever A) (Some (dest_of h)) l None (expr.Bin op.Mul a b here)) → table.is_product None (dest_of h) (dest_of l) (operand_of A l a) (operand_of A l b) ≡ true
value_row h l a b here m =
    by_test (is_flag (class_of b)) (subst (λ q. Matches (shapes.Assign (Some (dest_of h)) (dest_of l) (class_of (expr.Bin op.Mul a b here)) (value_layer (whichever A) l q))) (out_bin op.Mul a b here) m)
  where
    by_test : (t : Bool) → Matches (shapes.Assign (Some (dest_of h)) (dest_of l) (class_of (expr.Bin op.Mul a b here)) (if t then carry_layer (whichever A) l op.Mul (out-Expr a) else two_beside (whichever A) l op.Mul a b))
        → table.is_product None (dest_of h) (dest_of l) (operand_of A l a) (operand_of A l b) ≡ true
    by_test true k = absurd (false≢true (subst (λ v. Matches (shapes.Assign (Some (dest_of h)) (dest_of l) (class_of (expr.Bin op.Mul a b here)) v)) (carry_alone l (out-Expr a)) k))
    by_test false k = times_row (dest_of h) (dest_of l) (class_of (expr.Bin op.Mul a b here)) (operand_of A l a) (operand_of A l b) k

update_row : (h l : Lval) (e : Expr) → Matches (assign_of (whichever A) (Some (dest_of h)) l (Some op.Mul) e) → table.is_product None (dest_of h) (dest_of l) (itself l) (operand_of A l e) ≡ true
update_row h l e m = times_row (dest_of h) (dest_of l) class.Other (itself l) (operand_of A l e) (subst (λ v. Matches (shapes.Assign (Some (dest_of h)) (dest_of l) class.Other v)) (times_update l e (out-Expr e)) m)

-- its parts
pub record RowParts (o : Option Size) (h l : Class) (a b : Operand) : Type 0 where
  pub high : is_pinned h ≡ true
  pub long : is_long (product_size o h l a b) ≡ true
  pub first : is_rmi a.class ≡ true
  pub second : is_rm b.class ≡ true
  pub low : (is_skip l ≡ true) ⊎ ((is_r l && computes (not (is_i a.class)) l a b) ≡ true)

pub row_parts : (o : Option Size) (h l : Class) (a b : Operand) → table.is_product o h l a b ≡ true → RowParts o h l a b
row_parts o h l a b m =
    let p = and_parts (is_pinned h) _ m in
    let q = and_parts (is_long (product_size o h l a b)) _ p.1 in
    let r = and_parts (is_rmi a.class) _ q.1 in
    let s = and_parts (is_rm b.class) _ r.1 in
    record { high = p.0; long = q.0; first = r.0; second = s.0; low = or_parts (is_skip l) (is_r l && computes (not (is_i a.class)) l a b) s.1 }

pub low_pinned : (l : Class) (c : Bool) → (is_skip l ≡ true) ⊎ ((is_r l && c) ≡ true) → is_pinned l ≡ true
low_pinned l c (inl s) = or_right (is_r l) (is_skip l) s
low_pinned l c (inr r) = or_left (is_r l) (is_skip l) (and_parts (is_r l) c r).0

skip_no_rmi : (c : Class) → is_skip c ≡ true → is_rmi c ≡ true → ⊥
skip_no_rmi class.Skip e f = false≢true f
skip_no_rmi c e f = false≢true e

in_register : (l : Class) (c : Bool) → is_rmi l ≡ true → (is_skip l ≡ true) ⊎ ((is_r l && c) ≡ true) → (is_r l ≡ true) × (c ≡ true)
in_register l c m (inl s) = absurd (skip_no_rmi l s m)
in_register l c m (inr r) = and_parts (is_r l) c r

-- the low word, whose class is that of `_` or of a register
pub low_there : (frame : Frame) (home : Homes) (homing : IsHoming frame home) (l : Lval) (xl : IsExpandedLeft home l) (z : Size) → IsLong z → (tl : Holds (place.word z) l) → left_operand (left_access l) ≡ None → (a b : Expr) (OA : OperandAs home z a) (OB : OperandAs home z b) → Fits z OA.arg' → Fits z OB.arg' → (h : Option Pinned)
    → is_rm (class_of b) ≡ true → (is_skip (dest_of l) ≡ true) ⊎ ((is_r (dest_of l) && computes (not (is_i (class_of a))) (dest_of l) (operand_of A l a) (operand_of A l b)) ≡ true) → Low home z l h OA.arg' OB.arg'
low_there frame home homing l xl z long tl last a b OA OB fa fb h rb (inl s) = low_skip home z long l h OA.arg' OB.arg' xl s fa (stands_place OB.stands rb) fb
low_there frame home homing l xl z long tl last a b OA OB fa fb h rb (inr c) =
    let r = and_parts (is_r (dest_of l)) (computes (not (is_i (class_of a))) (dest_of l) (operand_of A l a) (operand_of A l b)) c in
    let rd = or_left (is_r (dest_of l)) (is_m (dest_of l)) r.0 in
    let D = left_there home z l xl tl rd in
    let fd = D.fits last in
    low_register home z long l h OA.arg' OB.arg' D (operand_of A l a) (operand_of A l b) r.0 fd (beside_operand frame home homing z l D rd fd a OA fa) (beside_operand frame home homing z l D rd fd b OB fb) rb r.1

and_false : (a b : Bool) → b ≡ false → (a && b) ≡ false
and_false true b i = i
and_false false b i = refl

module _ (frame : Frame) (home : Homes) (homing : IsHoming frame home) (h l : Lval) (xh : IsExpandedLeft home h) (xl : IsExpandedLeft home l) (z : Size) (th : Holds (place.word z) h) (tl : Holds (place.word z) l) where
  made : (u : Option BinOp) (e a b : Expr) (here at : Span) (H : PinnedLeft home z h) (x y : Arg) (p q : Leaks) → whole_of (Some l) u e ≡ Some (expr.Bin op.Mul a b here) → option_or (left_sizes (h ∷ l ∷ [])) (own_size (expr.Bin op.Mul a b here)) ≡ Some z → IsLong z
      → IsArg home z a x p → IsArg home z b y q → NotImm y → Low home z l H.kept x y → HasOperations home (assign (h ∷ l ∷ []) u e None at)
  made u e a b here at H x y p q whole size long ia ib n L = (_, _, by_flags (wide_products {at = at} here whole size long H.is L.is ia ib n L.wide.is L.wide.can))

  -- ---- `h, l = a * b`
  product_value : (a b : Expr) (here at : Span) → (is_inline a && is_inline b) ≡ false → IsExpanded home a → IsExpanded home b → Wants h (place.word z) ⊎ (Wants l (place.word z) ⊎ Says (value (expr.Bin op.Mul a b here)) z) → HasType (value (expr.Bin op.Mul a b here)) (place.word z)
      → PairKept h l None (expr.Bin op.Mul a b here) → Matches (assign_of (whichever A) (Some (dest_of h)) l None (expr.Bin op.Mul a b here)) → HasOperations home (assign (h ∷ l ∷ []) None (expr.Bin op.Mul a b here) None at)
  product_value a b here at n xa xb says t f m =
      let e = expr.Bin op.Mul a b here in
      let oa = operand_of A l a in
      let ob = operand_of A l b in
      let row = row_parts None (dest_of h) (dest_of l) oa ob (value_row h l a b here m) in
      let k = operation_of op.Mul a b here (place.word z) (typed_as e (Expr-F.Bin op.Mul a b here) (place.word z) (out_bin op.Mul a b here) t) in
      let OA = operand_there home z (place.word z) a of_size xa (first_by op.Mul (value a) (value b) (place.word z) z refl k) row.first in
      let rmi = or_left (is_rm (class_of b)) (is_i (class_of b)) row.second in
      let OB = operand_there home z (place.word z) b of_size xb (second_by op.Mul (value a) b (place.word z) z refl refl rmi k) rmi in
      let H = pinned_left frame home homing z h xh th row.high in
      let L = pinned_left frame home homing z l xl tl (low_pinned (dest_of l) _ row.low) in
      let size = three_size (left_size h) (left_size l) (own_size e) z H.own L.own (sizes_by H L says) in
      let kept = two_kept (at_size z) op.Mul a b here n
      (subst (λ w. (seen (record { place = None; size = w }) e).operand ≡ None) size
      (first_none _ (free_or (is_free (to_register (Some l)) None e) (option_or (left_sizes (h ∷ l ∷ [])) (own_size e)) role.Operand e f.right (and_false (to_register (Some l)) (is_inline e) (two_inline op.Mul a b here ∙ n))))) in
      let fa = OA.fits None kept.0 in
      let fb = OB.fits None kept.1 in
      let long = long_of (product_size None (dest_of h) (dest_of l) oa ob) z (four_sized (class_size (dest_of h)) (class_size (dest_of l)) (class_size (class_of a)) (class_size (class_of b)) z H.sized L.sized OA.sized OB.sized) row.long in
      let low = low_there frame home homing l xl z long tl f.last a b OA OB fa fb H.kept row.second row.low in
      made None e a b here at H OA.arg' OB.arg' OA.leaks OB.leaks refl size long OA.is OB.is (not_imm OB.arg' (place_not_imm OB.arg' (stands_place OB.stands row.second))) low
    where
      sizes_by : (H : PinnedLeft home z h) (L : PinnedLeft home z l) → Wants h (place.word z) ⊎ (Wants l (place.word z) ⊎ Says (value (expr.Bin op.Mul a b here)) z) → (left_size h ≡ Some z) ⊎ ((left_size l ≡ Some z) ⊎ (own_size (expr.Bin op.Mul a b here) ≡ Some z))
      sizes_by H L (inl w) = inl (H.wanted w)
      sizes_by H L (inr (inl w)) = inr (inl (L.wanted w))
      sizes_by H L (inr (inr s)) = inr (inr (says_own home (expr.Bin op.Mul a b here) (place.word z) z (of_two op.Mul a b here n xa xb) t s))

  -- ---- `h, l *= e`
  product_update : (e : Expr) (at : Span) → IsExpanded home e → HasType (result op.Mul l e) (place.word z) → PairKept h l (Some op.Mul) e → Matches (assign_of (whichever A) (Some (dest_of h)) l (Some op.Mul) e) → HasOperations home (assign (h ∷ l ∷ []) (Some op.Mul) e None at)
  product_update e at xe t f m =
      let ob = operand_of A l e in
      let row = row_parts None (dest_of h) (dest_of l) (itself l) ob (update_row h l e m) in
      let r = in_register (dest_of l) (computes (not (is_i (dest_of l))) (dest_of l) (itself l) ob) row.first row.low in
      let rd = or_left (is_r (dest_of l)) (is_m (dest_of l)) r.0 in
      let D = left_there home z l xl tl rd in
      let fd = D.fits f.last in
      let g = left_expr frame home homing l xl rd in
      let k = updated_of op.Mul l e (place.word z) t in
      let rmi = or_left (is_rm (class_of e)) (is_i (class_of e)) row.second in
      let OB = operand_there home z (place.word z) e of_size xe (second_by op.Mul (left l) e (place.word z) z refl refl rmi k) rmi in
      let H = pinned_left frame home homing z h xh th row.high in
      let own = register_size home l z D.arg' (left_register home z l D r.0) in
      let sizes : (o : Option Size) → option_or (left_sizes (h ∷ l ∷ [])) o ≡ Some z = λ o. three_size (left_size h) (left_size l) o z H.own (inl own) (inr (inl own)) in
      let fb = OB.fits None (subst (λ w. (seen (record { place = None; size = w }) e).operand ≡ None) (sizes (own_size e)) (first_none _ f.right)) in
      let long = long_of (product_size None (dest_of h) (dest_of l) (itself l) ob) z (four_sized (class_size (dest_of h)) (class_size (dest_of l)) (class_size (dest_of l)) (class_size (class_of e)) z H.sized D.sized D.sized OB.sized) row.long in
      let whole = ap (λ w. updated w op.Mul e (left_span l)) g.1 ∙ ap (λ w. Some w) (times_updated g.0 e (left_span l) (out-Expr e)) in
      let low = low_register home z long l H.kept D.arg' OB.arg' D (itself l) ob r.0 fd (beside_itself frame home homing z l D rd fd) (beside_operand frame home homing z l D rd fd e OB fb) row.second r.1 in
      made (Some op.Mul) e g.0 e (left_span l) at H D.arg' OB.arg' D.leaks OB.leaks whole (sizes (own_size (expr.Bin op.Mul g.0 e (left_span l)))) long (left_read home z l D.arg' D.leaks g.0 D.is g.1) OB.is
      (not_imm OB.arg' (place_not_imm OB.arg' (stands_place OB.stands row.second))) low

-- ---- what is a product
module _ (frame : Frame) (home : Homes) (homing : IsHoming frame home) (h l : Lval) (xh : IsExpandedLeft home h) (xl : IsExpandedLeft home l) where
  two_value : (o : BinOp) (a b : Expr) (here at : Span) → (is_inline a && is_inline b) ≡ false → IsExpanded home a → IsExpanded home b → is_times (Expr-F.Bin o a b here) ≡ true → IsProduct h l (value (expr.Bin o a b here)) → PairKept h l None (expr.Bin o a b here)
      → Matches (assign_of (whichever A) (Some (dest_of h)) l None (expr.Bin o a b here)) → HasOperations home (assign (h ∷ l ∷ []) None (expr.Bin o a b here) None at)
  two_value op.Mul a b here at n xa xb is (lefts.words z says th tl t) f m = product_value frame home homing h l xh xl z th tl a b here at n xa xb says t f m
  two_value op.Mul a b here at n xa xb is (lefts.numbers lh ll t) f m =
      let row = row_parts None (dest_of h) (dest_of l) (operand_of A l a) (operand_of A l b) (value_row h l a b here m) in
      let k = operation_of op.Mul a b here place.unsized (typed_as (expr.Bin op.Mul a b here) (Expr-F.Bin op.Mul a b here) place.unsized (out_bin op.Mul a b here) t) in
      absurd (unsized_no_rm home b xb (second_unsized (value a) (value b) k) row.second)
  two_value o a b here at n xa xb is p f m = absurd (false≢true is)

  layer_no : (e : Expr) (w : Layer) → out-Expr e ≡ w → is_times w ≡ false → is_times (out-Expr e) ≡ true → ⊥
  layer_no e w s f h = false≢true (sym f ∙ (sym (ap is_times s) ∙ h))

  value_there : (e : Expr) (at : Span) → IsExpanded home e → is_times (out-Expr e) ≡ true → IsProduct h l (value e) → PairKept h l None e → Matches (assign_of (whichever A) (Some (dest_of h)) l None e) → HasOperations home (assign (h ∷ l ∷ []) None e None at)
  value_there e at (a_number i s) is p f m = absurd (layer_no (expr.Num i s) (Expr-F.Num i s) (out_num i s) refl is)
  value_there e at (a_truth b s) is p f m = absurd (layer_no (expr.Bool b s) (Expr-F.Expr::Bool b s) (out_bool b s) refl is)
  value_there e at (a_variable v x) is p f m = absurd (layer_no (expr.Var v) (Expr-F.Var v) (out_var v) refl is)
  value_there e at (a_cell v i x y) is p f m = absurd (layer_no (expr.Cell v i) (Expr-F.Cell v i) (out_cell v i) refl is)
  value_there e at (a_load a x) is p f m = absurd (layer_no (expr.Load a) (Expr-F.Load a) (out_load a) refl is)
  value_there e at (a_minus a s n x) is p f m = absurd (layer_no (expr.Neg a s) (Expr-F.Neg a s) (out_neg a s) refl is)
  value_there e at (a_denial a s n x) is p f m = absurd (layer_no (expr.Not a s) (Expr-F.Not a s) (out_not a s) refl is)
  value_there e at (a_cast y s a c x) is p f m = absurd (layer_no (expr.Cast y s a c) (Expr-F.Cast y s a c) (out_cast y s a c) refl is)
  value_there e at (of_two o a b s n x y) is p f m = two_value o a b s at n x y (sym (ap is_times (out_bin o a b s)) ∙ is) p f m

  update_there : (o : BinOp) (e : Expr) (at : Span) → IsExpanded home e → is_mul o ≡ true → IsProduct h l (result o l e) → PairKept h l (Some o) e → Matches (assign_of (whichever A) (Some (dest_of h)) l (Some o) e) → HasOperations home (assign (h ∷ l ∷ []) (Some o) e None at)
  update_there op.Mul e at xe is (lefts.words z says th tl t) f m = product_update frame home homing h l xh xl z th tl e at xe t f m
  update_there op.Mul e at xe is (lefts.numbers lh ll t) f m =
      let row = row_parts None (dest_of h) (dest_of l) (itself l) (operand_of A l e) (update_row h l e m) in
      absurd (unsized_no_rm home e xe (second_unsized (left l) (value e) (updated_of op.Mul l e place.unsized t)) row.second)
  update_there o e at xe is p f m = absurd (false≢true is)

  pub product : (o : Option BinOp) (e : Expr) (at : Span) → IsExpanded home e → is_product o e ≡ true → IsProduct h l (value_term o l e) → PairKept h l o e → Matches (assign_of (whichever A) (Some (dest_of h)) l o e) → HasOperations home (assign (h ∷ l ∷ []) o e None at)
  product None e at xe is p f m = value_there e at xe is p f m
  product (Some o) e at xe is p f m = update_there o e at xe is p f m
