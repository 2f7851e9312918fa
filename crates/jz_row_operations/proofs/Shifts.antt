-- `d = a sh c` by a constant, and `d = a sh (v & k)` by a variable.
use Rattle.std.proofs.Common.{◌≡◌, ℕ, ◌*◌, ◌/◌, ◌%◌, ◌^◌, ◌<◌, Bool, true, false, List, [], ◌∷◌, ◌++◌, Option, Some, None, refl, sym, ap, ◌∙◌, subst, arith, ℤ, pos, negsuc}
use Rattle.std.specs.Prelude.{◌==◌}
use Rattle.std.specs.Int.{int_div_euclid}
use Rattle.std.specs.Option.{option_or}
use Rattle.std.proofs.lemmas.Nat.{mod_below, and_mask}
use Rattle.std.proofs.lemmas.Bool.{eqb-true}
use Rattle.std.proofs.Math.Nat.{mod-eq_of_lt, div-le_self}
use Rattle.jz_io.specs.declared.span.Span.{Span}
use Rattle.jz_words.specs.declared.size.Size.{Size}
use Rattle.jz_words.specs.declared.size.Size.TheVariants.{S8, S16, S32, S64}
use Rattle.jz_words.specs.Sizes.{bits_of, modulus, signed}
use Rattle.jz_words.specs.Words.{residue, rol_of, ror_of}
use Rattle.jz_words.proofs.Residues.{some_words, residue_below}
use Rattle.x64_insn.specs.declared.types.Shift.{Shift}
use Rattle.x64_insn.specs.declared.types.Shift.TheVariants as shift
use Rattle.x64_insn.specs.Shifts.{masked, shifted, shift_answer}
use Rattle.x64_insn.specs.Products.{no_flags}
use Rattle.jz_tree.specs.declared.expr.BinOp.{BinOp}
use Rattle.jz_tree.specs.declared.expr.BinOp.TheVariants as o
use Rattle.jz_tree.specs.declared.expr.Expr.{Expr}
use Rattle.jz_tree.specs.declared.expr.Expr.TheVariants as expr
use Rattle.jz_tree.specs.declared.expr.Var.{Var}
use Rattle.jz_tree.specs.declared.stmt.Lval.{Lval}
use Rattle.jz_runs.specs.Rules.{went}
use Rattle.jz_meaning.specs.Attempts.{and_then, defined}
use Rattle.jz_meaning.specs.States.{Value, word, integer, State}
use Rattle.jz_meaning.specs.Operators.{is_shift, is_settled, shifted_word, shifted as shifted_value, binary}
use Rattle.jz_meaning.specs.Values.{key_of, ref_of, own_size, evaluated, left_wanted, right_wanted, with_right, run_binary}
use Rattle.jz_meaning.specs.Assignments.{left_sizes, assigned}
use Rattle.jz_operations.specs.declared.operation.Pinned.{Pinned}
use Rattle.jz_operations.specs.declared.operation.Arg.{Arg}
use Rattle.jz_operations.specs.declared.operation.Arg.TheVariants as arg
use Rattle.jz_operations.specs.declared.operation.Action.TheVariants as action
use Rattle.jz_operations.specs.declared.operation.Flags.{Flags}
use Rattle.jz_operations.specs.Values as over
use Rattle.jz_operations.proofs.Somes.{same_some}
use Rattle.x64_insn.specs.declared.types.Alu.TheVariants as alu
use Rattle.x64_insn.specs.Answers.{alu_answer, and_answer}
use Rattle.jz_operations.specs.Rows.{Frame, narrowed}
use Rattle.jz_homes.proofs.Shown.{shown, read_shown}
use Rattle.jz_homes.specs.Homes.{Homes, IsHoming, in_register, IsRelated}
use Rattle.jz_homes.specs.Operands.{Leaks, IsArg, a_word, a_number, IsDest}
use Rattle.jz_row_operations.specs.Codes.{plain}
use Rattle.jz_row_operations.specs.Rows.{NotImm, mask_of, IsShiftOp, shift_of}
use Rattle.jz_homes.proofs.Parts.{both_went, went_same, defined_went, evaluated_num, evaluated_var, evaluated_bin}
use Rattle.jz_homes.proofs.Reading.{FormOf, operand_read, signed_itself}
use Rattle.jz_row_operations.proofs.Sums.{OfSize, sized, whole, of_size, combined_is, two_operands, not_numbers}
use Rattle.jz_row_operations.proofs.Brought.{Ends, Row, Unary, unary_and, unary_parts, finishes_plain}
use Rattle.jz_row_operations.proofs.Ones.{no_integer}

-- ---- the count 0 changes nothing
euclid_one : (i : ℤ) → int_div_euclid i (pos 1) ≡ i
euclid_one (pos n) = let k : n / 1 ≡ n = omega arith in ap pos k
euclid_one (negsuc n) = let k : n / 1 ≡ n = omega arith in ap negsuc k

rol_zero : (z : Size) (a : ℕ) → a < modulus z → rol_of z a 0 ≡ a
rol_zero S8 a h = omega (arith, h)
rol_zero S16 a h = omega (arith, h)
rol_zero S32 a h = omega (arith, h)
rol_zero S64 a h = omega (arith, h)

ror_zero : (z : Size) (a : ℕ) → a < modulus z → ror_of z a 0 ≡ a
ror_zero S8 a h = omega (arith, h)
ror_zero S16 a h = omega (arith, h)
ror_zero S32 a h = omega (arith, h)
ror_zero S64 a h = omega (arith, h)

shift_zero : (kind : Shift) (z : Size) (a : ℕ) → a < modulus z → shifted kind z a 0 ≡ a
shift_zero shift.Rol z a h = rol_zero z a h
shift_zero shift.Ror z a h = ror_zero z a h
shift_zero shift.Shl z a h = let k : a * 1 ≡ a = omega arith in ap (λ x. x % modulus z) k ∙ mod-eq_of_lt h
shift_zero shift.Shr z a h = let k : a / 1 ≡ a = omega arith in k
shift_zero shift.Sar z a h = ap (residue z) (euclid_one (signed z a)) ∙ signed_itself z a h

answer_by : (b : Bool) (kind : Shift) (z : Size) (a n : ℕ) → a < modulus z → (n == 0) ≡ b → (shift_answer kind z a n no_flags).value ≡ shifted kind z a n
unfolding shift_answer
answer_by true kind z a n h e = rw e (sym (ap (shifted kind z a) (eqb-true n 0 e) ∙ shift_zero kind z a h))
answer_by false kind z a n h e = rw e refl

pub shift_value : (kind : Shift) (z : Size) (a n : ℕ) → a < modulus z → (shift_answer kind z a n no_flags).value ≡ shifted kind z a n
shift_value kind z a n h = answer_by (n == 0) kind z a n h refl

shift_small : (kind : Shift) (z : Size) (a n : ℕ) → a < modulus z → shifted kind z a n < modulus z
shift_small shift.Rol z a n h = mod_below _ (modulus z) (some_words z)
shift_small shift.Ror z a n h = mod_below _ (modulus z) (some_words z)
shift_small shift.Shl z a n h = mod_below _ (modulus z) (some_words z)
shift_small shift.Shr z a n h = let l = div-le_self a (2 ^ n) in omega (arith, h, l)
shift_small shift.Sar z a n h = residue_below z _

pub answer_small : (kind : Shift) (z : Size) (a n : ℕ) → a < modulus z → (shift_answer kind z a n no_flags).value < modulus z
answer_small kind z a n h = subst (λ x. x < modulus z) (sym (shift_value kind z a n h)) (shift_small kind z a n h)

pub masked_itself : (z : Size) (n : ℕ) → n < bits_of z → masked z n ≡ n
masked_itself S8 n h = omega (arith, h)
masked_itself S16 n h = omega (arith, h)
masked_itself S32 n h = omega (arith, h)
masked_itself S64 n h = omega (arith, h)

-- ---- the source's shift
count_is : (op : BinOp) (z : Size) (a n : ℕ) → IsShiftOp op → shifted_word op z a n ≡ Some (word z (shifted (shift_of op) z a n))
count_is o.Shl z a n h = refl
count_is o.Shr z a n h = refl
count_is o.Sar z a n h = refl
count_is o.Rol z a n h = refl
count_is o.Ror z a n h = refl
count_is _ z a n h = absurd h

shift_right : (op : BinOp) (z : Size) → IsShiftOp op → (x : Value) → (is_settled op x ≡ false) × (right_wanted op (Some z) ≡ Some S8) × (is_shift op ≡ true)
shift_right o.Shl z h x = (refl, refl, refl)
shift_right o.Shr z h x = (refl, refl, refl)
shift_right o.Sar z h x = (refl, refl, refl)
shift_right o.Rol z h x = (refl, refl, refl)
shift_right o.Ror z h x = (refl, refl, refl)
shift_right _ z h x = absurd h

shift_left : (op : BinOp) (z : Size) (x y : Option Size) → IsShiftOp op → left_wanted op (Some z) x y ≡ Some z
shift_left o.Shl z x y h = refl
shift_left o.Shr z x y h = refl
shift_left o.Sar z x y h = refl
shift_left o.Rol z x y h = refl
shift_left o.Ror z x y h = refl
shift_left _ z x y h = absurd h

-- the count, and then the shift
abbrev pub behind_count : BinOp → Expr → Span → Size → State → Value → Rattle.jz_meaning.specs.Attempts.Evaluation Value
behind_count op c at z s u = and_then (evaluated c (Some S8) s) (λ y. defined at (shifted_value op (Some z) u y))

right_is : (op : BinOp) (z : Size) (c : Expr) (at : Span) (s : State) (x : Value) → IsShiftOp op → with_right op (evaluated c) at (Some z) s x ≡ behind_count op c at z s x
unfolding binary
right_is op z c at s x h = let k = shift_right op z h x in rw (k.0, k.1, k.2) refl

and_same : {A B : Type 0} (x : Rattle.jz_meaning.specs.Attempts.Evaluation A) (f g : A → Rattle.jz_meaning.specs.Attempts.Evaluation B) → ((v : A) → f v ≡ g v) → and_then x f ≡ and_then x g
and_same x f g h = ap (and_then x) (λ i v. h v i)

pub evaluated_shift : (op : BinOp) (a c : Expr) (at : Span) (z : Size) (s : State) → IsShiftOp op → evaluated (expr.Bin op a c at) (Some z) s ≡ and_then (evaluated a (Some z) s) (behind_count op c at z s)
evaluated_shift op a c at z s h =
    evaluated_bin op a c at (Some z) s ∙ ap (λ w. run_binary op (evaluated a) (evaluated c) at w s) (shift_left op z (own_size a) (own_size c) h)
    ∙ and_same (evaluated a (Some z) s) (with_right op (evaluated c) at (Some z) s) (behind_count op c at z s) (λ x. right_is op z c at s x h)

-- by a number that is written
number_shifts : (op : BinOp) (z : Size) (a n : ℕ) → IsShiftOp op → shifted_value op (Some z) (word z a) (integer (pos n)) ≡ Some (word z (shifted (shift_of op) z a n))
unfolding shifted_value
number_shifts op z a n h = count_is op z a n h

by_number : (op : BinOp) (at here : Span) (z : Size) (n : ℕ) (s : State) (x : Arg) (v : Value) (k : ℕ) (ms : List ℕ) (u : Value) → IsShiftOp op → n < bits_of z → NotImm x → OfSize z v k → FormOf x v → k < modulus z
    → behind_count op (expr.Num (pos n) here) at z s v ≡ went ms u → (ms ≡ []) × (u ≡ word z (shift_answer (shift_of op) z k (masked z n) no_flags).value)
by_number op at here z n s x v k ms u h l nn (sized a) f small e =
    let g = both_went (evaluated (expr.Num (pos n) here) (Some S8) s) (λ y. defined at (shifted_value op (Some z) (word z k) y)) ms u e in
    let c = went_same [] g.first (integer (pos n)) g.value (sym (evaluated_num (pos n) here (Some S8) s) ∙ g.came) in
    let d = defined_went at (shifted_value op (Some z) (word z k) g.value) g.second u g.went_on in
    let w : word z (shifted (shift_of op) z k n) ≡ u = Rattle.jz_operations.proofs.Somes.same_some _ u (sym (number_shifts op z k n h) ∙ ap (shifted_value op (Some z) (word z k)) c.1 ∙ d.0) in
    (g.numbers ∙ ap (λ y. y ++ g.second) (sym c.0) ∙ d.1, sym w ∙ ap (word z) (sym (shift_value (shift_of op) z k n small)) ∙ ap (λ y. word z (shift_answer (shift_of op) z k y no_flags).value) (sym (masked_itself z n l)))
by_number op at here z n s x v k ms u h l nn (whole i) f small e = absurd (no_integer x i f nn)

-- by a masked variable
pub masked_is : (z : Size) (n : ℕ) → (alu_answer alu.And S8 n (residue S8 (pos (mask_of z))) false).value ≡ masked z n
unfolding and_answer
masked_is S8 n = and_mask n 5
masked_is S16 n = and_mask n 5
masked_is S32 n = and_mask n 5
masked_is S64 n = and_mask n 6

word_shifts : (op : BinOp) (z : Size) (v : Value) (a n : ℕ) → IsShiftOp op → OfSize z v a → shifted_value op (Some z) v (word S8 n) ≡ Some (word z (shifted (shift_of op) z a n))
unfolding shifted_value
word_shifts op z v a n h (sized b) = count_is op z a n h
word_shifts op z v a n h (whole i) = count_is op z a n h

abbrev pub or_zero : Option ℕ → ℕ
or_zero None = 0
or_zero (Some n) = n

abbrev pub count_expr : Var → Size → Span → Span → Expr
count_expr v z there at = expr.Bin o.And (expr.Var v) (expr.Num (pos (mask_of z)) there) at

-- ---- the operation, whatever becomes of the flags
pub shift_ends : (frame : Frame) (kind : Shift) (n : ℕ) (at : Span) (fl : Flags) (z : Size) (b : Arg) (vs : List ℕ) (σ : over.State) (left : ℕ)
    → Ends frame (record { span = at; action = action.Shift kind z b n; flags = fl }) z b vs σ left (shift_answer kind z left (masked z n) no_flags).value (shift_answer kind z left (masked z n) no_flags).flags []
shift_ends frame kind n at fl z b vs σ left = record { goes = λ τ τ' same cells memory e f. (shown b τ ++ [], rw e (rw (read_shown frame b z τ left e) (rw f refl)), refl) }

pub shift_by_ends : (frame : Frame) (kind : Shift) (c : Pinned) (n : ℕ) (at : Span) (fl : Flags) (z : Size) (b : Arg) (σ : over.State) (left : ℕ) → narrowed S8 (σ.vars c.variable) ≡ Some n
    → Ends frame (record { span = at; action = action.ShiftBy kind z b c; flags = fl }) z b (c.variable ∷ []) σ left (shift_answer kind z left (masked z n) no_flags).value (shift_answer kind z left (masked z n) no_flags).flags []
shift_by_ends frame kind c n at fl z b σ left h = record { goes = λ τ τ' same cells memory e f. let k : narrowed S8 (τ.vars c.variable) ≡ Some n = ap (narrowed S8) same.0 ∙ h in (shown b τ ++ [], rw (e, k) (rw (read_shown frame b z τ left e) (rw f refl)), refl) }

module _ (frame : Frame) (home : Homes) (homing : IsHoming frame home) (s : State) (σ : over.State) (related : IsRelated home s σ) where
  -- by a constant
  pub shift_parts : (op : BinOp) {z : Size} {d : Lval} {a : Expr} {x b : Arg} {p r : Leaks} (n : ℕ) (at there here : Span) (t : State) (ns : List ℕ) → IsShiftOp op → n < bits_of z → NotImm x → option_or (left_sizes (d ∷ [])) (own_size (expr.Bin op a (expr.Num (pos n) there) at)) ≡ Some z
      → IsArg home z a x p → IsDest home z d b r → assigned (d ∷ []) None (expr.Bin op a (expr.Num (pos n) there) at) None here s ≡ went ns t
      → Unary frame home homing s σ related z x b p r (λ k. (shift_answer (shift_of op) z k (masked z n) no_flags).value) t ns
  shift_parts op {z} {d} {a} {x} n at there here t ns h l nn size ia id run =
      unary_parts frame home homing s σ related (expr.Bin op a (expr.Num (pos n) there) at) (behind_count op (expr.Num (pos n) there) at z s) (λ k. (shift_answer (shift_of op) z k (masked z n) no_flags).value) here t ns (evaluated_shift op a (expr.Num (pos n) there) at z s h)
      (λ v k ms u w f small e. by_number op at there z n s x v k ms u h l nn w f small e) (λ k small. answer_small (shift_of op) z k (masked z n) small) size ia id run

  pub shift_row : (kind : Shift) (n : ℕ) {z : Size} {x b : Arg} {p r : Leaks} (at : Span) (t : State) (ns : List ℕ) → (k : Unary frame home homing s σ related z x b p r (λ k. (shift_answer kind z k (masked z n) no_flags).value) t ns)
      → Row frame home homing s σ related (plain at (action.Shift kind z b n)) z x b p r [] [] k.first k.second t
  shift_row kind n {z} {x} {b} at t ns k = record {
    left = k.left;
    reads = k.reads;
    small = k.small;
    shows = k.shows;
    n = _;
    fs = (shift_answer kind z k.left (masked z n) no_flags).flags;
    ends = shift_ends frame kind n at _ z b [] σ k.left;
    finish = finishes_plain frame home homing s σ related at (action.Shift kind z b n) _ t k.writes;
  }

  three_nothing : (a b c : List ℕ) → a ≡ [] → b ≡ [] → c ≡ [] → a ++ (b ++ c) ≡ []
  three_nothing a b c e f g = rw (e, f, g) refl

  evaluated_word_none : (w : Var) (n : ℕ) (ns : List ℕ) (v : Value) → evaluated (expr.Var w) (Some S8) s ≡ went ns v → ns ≡ []
  evaluated_word_none w n ns v e = (defined_went (ref_of w).span (s.store (key_of (ref_of w))) ns v (sym (evaluated_var w (Some S8) s) ∙ e)).1

  -- what the variable holds is there, too
  by_variable : (op : BinOp) (at there in' : Span) (z : Size) (w : Var) (n : ℕ) (x : Arg) (v : Value) (k : ℕ) (ms : List ℕ) (u : Value) → IsShiftOp op → home (key_of (ref_of w)) ≡ Some (in_register n S8) → OfSize z v k → k < modulus z
      → behind_count op (count_expr w z there in') at z s v ≡ went ms u
      → (ms ≡ []) × (u ≡ word z (shift_answer (shift_of op) z k (masked z (or_zero (narrowed S8 (σ.vars n)))) no_flags).value) × (narrowed S8 (σ.vars n) ≡ Some (or_zero (narrowed S8 (σ.vars n))))
  by_variable op at there in' z w n x v k ms u h hm o' small e =
      let g = both_went (evaluated (count_expr w z there in') (Some S8) s) (λ y. defined at (shifted_value op (Some z) v y)) ms u e in
      let q = two_operands o.And S8 (expr.Var w) (expr.Num (pos (mask_of z)) there) in' s g.first g.value tt g.came in
      let m = operand_read frame home homing s σ related (a_word w n hm) q.first q.left q.evaluates in
      let c = operand_read frame home homing s σ related (a_number (pos (mask_of z)) there) q.second q.right q.and_this in
      let r = combined_is o.And q.at S8 q.left q.right m.bits c.bits q.last g.value tt (of_size S8 q.left m.bits m.word) (of_size S8 q.right c.bits c.word) (not_numbers (arg.Var n) (arg.Imm (signed S8 (residue S8 (pos (mask_of z))))) q.left q.right m.form c.form tt) q.gives in
      let cb : residue S8 (pos (mask_of z)) ≡ c.bits = same_some _ c.bits (ap (λ y. Some y) (sym (signed_itself S8 (residue S8 (pos (mask_of z))) (residue_below S8 (pos (mask_of z))))) ∙ c.value) in
      let held : or_zero (narrowed S8 (σ.vars n)) ≡ m.bits = ap or_zero m.value in
      let cv : word S8 (masked z m.bits) ≡ g.value = ap (word S8) (sym (masked_is z m.bits)) ∙ ap (λ y. word S8 (alu_answer alu.And S8 m.bits y false).value) cb ∙ r.1 in
      let d = defined_went at (shifted_value op (Some z) v g.value) g.second u g.went_on in
      let is : word z (shifted (shift_of op) z k (masked z m.bits)) ≡ u = same_some _ u (sym (word_shifts op z v k (masked z m.bits) h o') ∙ ap (shifted_value op (Some z) v) cv ∙ d.0) in
      let mn = let a = evaluated_word_none w n q.first q.left q.evaluates in let b = went_same [] q.second (integer (pos (mask_of z))) q.right (sym (evaluated_num (pos (mask_of z)) there (Some S8) s) ∙ q.and_this) in three_nothing q.first q.second q.last a (sym b.0) r.0 in (
        g.numbers ∙ ap (λ y. y ++ g.second) (q.numbers ∙ mn) ∙ d.1,
        sym is ∙ ap (word z) (sym (shift_value (shift_of op) z k (masked z m.bits) small)) ∙ ap (λ y. word z (shift_answer (shift_of op) z k (masked z y) no_flags).value) (sym held),
        m.value ∙ ap (λ y. Some y) (sym held),
      )

  pub shift_by_parts : (op : BinOp) {z : Size} {d : Lval} {a : Expr} {x b : Arg} {p r : Leaks} (w : Var) (n : ℕ) (at there in' here : Span) (t : State) (ns : List ℕ) → IsShiftOp op → home (key_of (ref_of w)) ≡ Some (in_register n S8)
      → option_or (left_sizes (d ∷ [])) (own_size (expr.Bin op a (count_expr w z there in') at)) ≡ Some z
      → IsArg home z a x p → IsDest home z d b r → assigned (d ∷ []) None (expr.Bin op a (count_expr w z there in') at) None here s ≡ went ns t
      → Unary frame home homing s σ related z x b p r (λ k. (shift_answer (shift_of op) z k (masked z (or_zero (narrowed S8 (σ.vars n)))) no_flags).value) t ns × (narrowed S8 (σ.vars n) ≡ Some (or_zero (narrowed S8 (σ.vars n))))
  shift_by_parts op {z} {d} {a} {x} w n at there in' here t ns h hm size ia id run =
      unary_and frame home homing s σ related (expr.Bin op a (count_expr w z there in') at) (behind_count op (count_expr w z there in') at z s) (λ k. (shift_answer (shift_of op) z k (masked z (or_zero (narrowed S8 (σ.vars n)))) no_flags).value) here t ns
      (evaluated_shift op a (count_expr w z there in') at z s h)
      (λ v k ms u o' f small e. by_variable op at there in' z w n x v k ms u h hm o' small e) (λ k small. answer_small (shift_of op) z k (masked z (or_zero (narrowed S8 (σ.vars n)))) small) size ia id run

  pub shift_by_row : (kind : Shift) (c : Pinned) {z : Size} {x b : Arg} {p r : Leaks} (at : Span) (t : State) (ns : List ℕ) → narrowed S8 (σ.vars c.variable) ≡ Some (or_zero (narrowed S8 (σ.vars c.variable)))
      → (k : Unary frame home homing s σ related z x b p r (λ k. (shift_answer kind z k (masked z (or_zero (narrowed S8 (σ.vars c.variable)))) no_flags).value) t ns)
      → Row frame home homing s σ related (plain at (action.ShiftBy kind z b c)) z x b p r (c.variable ∷ []) [] k.first k.second t
  shift_by_row kind c {z} {x} {b} at t ns held k = record {
    left = k.left;
    reads = k.reads;
    small = k.small;
    shows = k.shows;
    n = _;
    fs = (shift_answer kind z k.left (masked z (or_zero (narrowed S8 (σ.vars c.variable)))) no_flags).flags;
    ends = shift_by_ends frame kind c (or_zero (narrowed S8 (σ.vars c.variable))) at _ z b σ k.left held;
    finish = finishes_plain frame home homing s σ related at (action.ShiftBy kind z b c) _ t k.writes;
  }
