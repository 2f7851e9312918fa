-- An expression has one row of the pattern table.
use Rattle.std.proofs.Common.{◌≡◌, ℕ, ◌<◌, ◌≤◌, Bool, false, List, [], ◌∷◌, ◌++◌, Option, Some, None, refl, sym, ap, ◌∙◌, subst, arith, ℤ, pos}
use Rattle.std.specs.Prelude.{not}
use Rattle.jz_words.specs.declared.size.Size.{Size}
use Rattle.jz_words.specs.declared.size.Size.TheVariants.{S8}
use Rattle.jz_words.specs.Sizes.{bits_of}
use Rattle.jz_io.specs.declared.span.Span.{Span}
use Rattle.x64_insn.specs.declared.types.One.{One}
use Rattle.x64_insn.specs.declared.types.One.TheVariants as one
use Rattle.jz_tree.specs.declared.expr.BinOp.{BinOp}
use Rattle.jz_tree.specs.declared.expr.BinOp.TheVariants as op
use Rattle.jz_tree.specs.declared.expr.Expr.{Expr}
use Rattle.jz_tree.specs.declared.expr.Expr.TheVariants as expr
use Rattle.jz_tree.specs.declared.expr.Expr.TheOpen.{Expr-F}
use Rattle.jz_tree.specs.declared.expr.Expr.TheViews.{out-Expr}
use Rattle.jz_tree.specs.declared.expr.Var.{Var}
use Rattle.jz_tree.specs.declared.stmt.Lval.{Lval}
use Rattle.jz_meaning.specs.Assignments.{Layer}
use Rattle.jz_meaning.specs.Values.{key_of, ref_of, own_size}
use Rattle.jz_operations.specs.declared.operation.Pinned.{Pinned}
use Rattle.jz_operations.specs.declared.operation.Arg.{Arg}
use Rattle.jz_operations.specs.declared.operation.Arg.TheVariants as arg
use Rattle.jz_operations.specs.declared.operation.Action.{Action}
use Rattle.jz_operations.proofs.Somes.{same_some}
use Rattle.jz_change.specs.declared.change.Numbers.{Numbers}
use Rattle.jz_change.specs.declared.change.Numbers.TheVariants.{These}
use Rattle.jz_homes.specs.Homes.{Home, Homes, in_register, in_flag, in_cell}
use Rattle.jz_homes.specs.Operands.{Leaks, silent, count_of, IsArg, IsDest}
use Rattle.jz_row_operations.specs.Rows.{NotImm, IsSumOp, alu_of, commutes, IsCarryOp, carry_alu, IsSign, a_minus, a_not, IsShiftOp, shift_of, mask_of}
use Rattle.jz_row_operations.specs.Table.{is_imm, move_code, two_code, one_code, times_code, times_by_code, shift_code, shift_by_code, extend_code}
use Rattle.jz_row_operations.specs.Lowering.{numbers_from, two_shown, one_shown, HasRow, moves, sums, carries, signs, times, times_by, shifts, shifts_by, extends, lowest}
use Rattle.jz_one_row.proofs.Sums.{same_var}
use Rattle.jz_one_row.proofs.Operands.{register_of, ArgLayer, l_word, l_scalar, arg_layer, one_at, one_arg, one_dest}
use Rattle.jz_one_row.proofs.Outs.{out_bin, out_cast, out_neg, out_not, out_num, out_var}

-- ---- operators of different rows
abbrev group : BinOp → ℕ
group op.OrElse = 3
group op.AndThen = 3
group op.Or = 0
group op.Xor = 0
group op.And = 0
group op.Eq = 3
group op.Ne = 3
group op.Lt = 3
group op.Le = 3
group op.Gt = 3
group op.Ge = 3
group op.LtS = 3
group op.LeS = 3
group op.GtS = 3
group op.GeS = 3
group op.Shl = 2
group op.Shr = 2
group op.Sar = 2
group op.Rol = 2
group op.Ror = 2
group op.Add = 0
group op.Sub = 0
group op.Mul = 1
group op.Div = 3
group op.Rem = 3
group op.DivS = 3
group op.RemS = 3

sum_group : (o : BinOp) → IsSumOp o → group o ≡ 0
sum_group op.OrElse h = absurd h
sum_group op.AndThen h = absurd h
sum_group op.Or h = refl
sum_group op.Xor h = refl
sum_group op.And h = refl
sum_group op.Eq h = absurd h
sum_group op.Ne h = absurd h
sum_group op.Lt h = absurd h
sum_group op.Le h = absurd h
sum_group op.Gt h = absurd h
sum_group op.Ge h = absurd h
sum_group op.LtS h = absurd h
sum_group op.LeS h = absurd h
sum_group op.GtS h = absurd h
sum_group op.GeS h = absurd h
sum_group op.Shl h = absurd h
sum_group op.Shr h = absurd h
sum_group op.Sar h = absurd h
sum_group op.Rol h = absurd h
sum_group op.Ror h = absurd h
sum_group op.Add h = refl
sum_group op.Sub h = refl
sum_group op.Mul h = absurd h
sum_group op.Div h = absurd h
sum_group op.Rem h = absurd h
sum_group op.DivS h = absurd h
sum_group op.RemS h = absurd h

carry_group : (o : BinOp) → IsCarryOp o → group o ≡ 0
carry_group op.OrElse h = absurd h
carry_group op.AndThen h = absurd h
carry_group op.Or h = absurd h
carry_group op.Xor h = absurd h
carry_group op.And h = absurd h
carry_group op.Eq h = absurd h
carry_group op.Ne h = absurd h
carry_group op.Lt h = absurd h
carry_group op.Le h = absurd h
carry_group op.Gt h = absurd h
carry_group op.Ge h = absurd h
carry_group op.LtS h = absurd h
carry_group op.LeS h = absurd h
carry_group op.GtS h = absurd h
carry_group op.GeS h = absurd h
carry_group op.Shl h = absurd h
carry_group op.Shr h = absurd h
carry_group op.Sar h = absurd h
carry_group op.Rol h = absurd h
carry_group op.Ror h = absurd h
carry_group op.Add h = refl
carry_group op.Sub h = refl
carry_group op.Mul h = absurd h
carry_group op.Div h = absurd h
carry_group op.Rem h = absurd h
carry_group op.DivS h = absurd h
carry_group op.RemS h = absurd h

shift_group : (o : BinOp) → IsShiftOp o → group o ≡ 2
shift_group op.OrElse h = absurd h
shift_group op.AndThen h = absurd h
shift_group op.Or h = absurd h
shift_group op.Xor h = absurd h
shift_group op.And h = absurd h
shift_group op.Eq h = absurd h
shift_group op.Ne h = absurd h
shift_group op.Lt h = absurd h
shift_group op.Le h = absurd h
shift_group op.Gt h = absurd h
shift_group op.Ge h = absurd h
shift_group op.LtS h = absurd h
shift_group op.LeS h = absurd h
shift_group op.GtS h = absurd h
shift_group op.GeS h = absurd h
shift_group op.Shl h = refl
shift_group op.Shr h = refl
shift_group op.Sar h = refl
shift_group op.Rol h = refl
shift_group op.Ror h = refl
shift_group op.Add h = absurd h
shift_group op.Sub h = absurd h
shift_group op.Mul h = absurd h
shift_group op.Div h = absurd h
shift_group op.Rem h = absurd h
shift_group op.DivS h = absurd h
shift_group op.RemS h = absurd h

sum_times : (n : ℕ) → n ≡ 0 → n ≡ 1 → ⊥
sum_times n e f = omega (arith, e, f)

sum_shift : (n : ℕ) → n ≡ 0 → n ≡ 2 → ⊥
sum_shift n e f = omega (arith, e, f)

times_shift : (n : ℕ) → n ≡ 1 → n ≡ 2 → ⊥
times_shift n e f = omega (arith, e, f)

-- ---- layers
first_of : (o o2 : BinOp) (a c a2 c2 : Expr) (s s2 : Span) → ◌≡◌ {A = Layer} (Expr-F.Bin o a c s) (Expr-F.Bin o2 a2 c2 s2) → a ≡ a2
first_of o o2 a c a2 c2 s s2 e = cc

second_of : (o o2 : BinOp) (a c a2 c2 : Expr) (s s2 : Span) → ◌≡◌ {A = Layer} (Expr-F.Bin o a c s) (Expr-F.Bin o2 a2 c2 s2) → c ≡ c2
second_of o o2 a c a2 c2 s s2 e = cc

count_is : (n m : ℕ) (s s2 : Span) → ◌≡◌ {A = Layer} (Expr-F.Num (pos n) s) (Expr-F.Num (pos m) s2) → n ≡ m
count_is n m s s2 e = cc

num_bin : (n : ℤ) (o : BinOp) (a c : Expr) (s s2 : Span) → ◌≡◌ {A = Layer} (Expr-F.Num n s) (Expr-F.Bin o a c s2) → ⊥
num_bin n o a c s s2 e = absurd cc

var_is : (m n : ℕ) → ◌≡◌ {A = Arg} (arg.Var m) (arg.Var n) → m ≡ n
var_is m n e = cc

imm_is : (i j : ℤ) → ◌≡◌ {A = Arg} (arg.Imm i) (arg.Imm j) → i ≡ j
imm_is i j e = cc

flag_is : (m n : ℕ) → ◌≡◌ {A = Option Home} (Some (in_flag m)) (Some (in_flag n)) → m ≡ n
flag_is m n e = cc

flag_register : (m n : ℕ) (z : Size) → ◌≡◌ {A = Option Home} (Some (in_flag m)) (Some (in_register n z)) → ⊥
flag_register m n z e = absurd cc

flag_cell : (m w i : ℕ) (z : Size) → ◌≡◌ {A = Option Home} (Some (in_flag m)) (Some (in_cell w i z)) → ⊥
flag_cell m w i z e = absurd cc

-- ---- rows by the outermost layer
data RowLayer (home : Homes) (z : Size) (d : Lval) : Layer → List Action → List Numbers → Type 0 where
  r_moves : (l : Layer) (e : Expr) (x b : Arg) (p r : Leaks) → out-Expr e ≡ l → IsArg home z e x p → IsDest home z d b r → RowLayer home z d l (move_code z b x) (These (numbers_from r (count_of p) ++ numbers_from p 0) ∷ [])
  r_sums : (o : BinOp) (a c : Expr) (x y b : Arg) (p q r : Leaks) (acts : List Action) (at : Span) → IsSumOp o → IsArg home z a x p → IsArg home z c y q → IsDest home z d b r → two_code (alu_of o) (commutes o) z b x y None ≡ Some acts
      → RowLayer home z d (Expr-F.Bin o a c at) acts (two_shown (commutes o) b x y p q)
  r_carries : (o : BinOp) (i g a c : Expr) (x y b : Arg) (p q r : Leaks) (acts : List Action) (f : Var) (k : Pinned) (inner at : Span) → IsCarryOp o → out-Expr i ≡ Expr-F.Bin o a c inner → out-Expr g ≡ Expr-F.Var f → IsArg home z a x p → IsArg home z c y q → IsDest home z d b r
      → home (key_of (ref_of f)) ≡ Some (in_flag k.variable) → k.span ≡ (ref_of f).span → two_code (carry_alu o) (commutes o) z b x y (Some k) ≡ Some acts → RowLayer home z d (Expr-F.Bin o i g at) acts (two_shown (commutes o) b x y p q)
  r_minus : (a : Expr) (x b : Arg) (p r : Leaks) (acts : List Action) (at : Span) → IsArg home z a x p → IsDest home z d b r → one_code one.Neg z b x ≡ Some acts → RowLayer home z d (Expr-F.Neg a at) acts (one_shown b x p)
  r_not : (a : Expr) (x b : Arg) (p r : Leaks) (acts : List Action) (at : Span) → IsArg home z a x p → IsDest home z d b r → one_code one.Not z b x ≡ Some acts → RowLayer home z d (Expr-F.Not a at) acts (one_shown b x p)
  r_times : (a c : Expr) (x y : Arg) (m : ℕ) (p q : Leaks) (acts : List Action) (at : Span) → IsArg home z a x p → IsArg home z c y q → IsDest home z d (arg.Var m) silent → NotImm y → times_code z m x y ≡ Some acts
      → RowLayer home z d (Expr-F.Bin op.Mul a c at) acts (two_shown (not (is_imm x)) (arg.Var m) x y p q)
  r_times_by : (a c : Expr) (x : Arg) (i : ℤ) (m : ℕ) (p : Leaks) (at : Span) → IsArg home z a x p → IsArg home z c (arg.Imm i) silent → IsDest home z d (arg.Var m) silent
      → RowLayer home z d (Expr-F.Bin op.Mul a c at) (times_by_code z m x i) (These (numbers_from p 0) ∷ [])
  r_shifts : (o : BinOp) (a g : Expr) (x b : Arg) (p r : Leaks) (acts : List Action) (n : ℕ) (there at : Span) → IsShiftOp o → out-Expr g ≡ Expr-F.Num (pos n) there → IsArg home z a x p → IsDest home z d b r → shift_code (shift_of o) z b x n ≡ Some acts
      → RowLayer home z d (Expr-F.Bin o a g at) acts (one_shown b x p)
  r_shifts_by : (o : BinOp) (a g u m : Expr) (x b : Arg) (p r : Leaks) (acts : List Action) (v : Var) (k : Pinned) (inner at : Span) → IsShiftOp o → out-Expr g ≡ Expr-F.Bin op.And u m inner → out-Expr u ≡ Expr-F.Var v → home (key_of (ref_of v)) ≡ Some (in_register k.variable S8) → k.span ≡ (ref_of v).span
      → IsArg home z a x p → IsDest home z d b r → shift_by_code (shift_of o) z b x k ≡ Some acts → RowLayer home z d (Expr-F.Bin o a g at) acts (one_shown b x p)
  r_extends : (a : Expr) (y : Arg) (from w : Size) (m : ℕ) (p : Leaks) (sign : Bool) (at : Span) → own_size a ≡ Some from → bits_of from < bits_of z → IsArg home from a y p → IsDest home z d (arg.Var m) silent
      → RowLayer home z d (Expr-F.Cast w sign a at) (extend_code sign z from m y) (These (numbers_from p 0) ∷ [])
  r_lowest : (a : Expr) (from w : Size) (m n : ℕ) (at : Span) → own_size a ≡ Some from → bits_of z ≤ bits_of from → IsArg home from a (arg.Var n) silent → IsDest home z d (arg.Var m) silent
      → RowLayer home z d (Expr-F.Cast w false a at) (move_code z (arg.Var m) (arg.Var n)) (These [] ∷ [])

module _ (home : Homes) (z : Size) (d : Lval) where
  sign_layer : (o : One) (e a : Expr) (x b : Arg) (p r : Leaks) (acts : List Action) → IsSign o e a → IsArg home z a x p → IsDest home z d b r → one_code o z b x ≡ Some acts → RowLayer home z d (out-Expr e) acts (one_shown b x p)
  sign_layer o e a x b p r acts (a_minus a2 at) f g c = subst (λ l. RowLayer home z d l acts (one_shown b x p)) (sym (out_neg a at)) (r_minus a x b p r acts at f g c)
  sign_layer o e a x b p r acts (a_not a2 at) f g c = subst (λ l. RowLayer home z d l acts (one_shown b x p)) (sym (out_not a at)) (r_not a x b p r acts at f g c)

  row_layer : (e : Expr) (acts : List Action) (items : List Numbers) → HasRow home z d e acts items → RowLayer home z d (out-Expr e) acts items
  row_layer e acts items (moves {x} {b} {p} {r} f g) = r_moves (out-Expr e) e x b p r refl f g
  row_layer e acts items (sums {o} {a} {c} {x} {y} {b} {p} {q} {r} at s f g h ni k) =
      subst (λ l. RowLayer home z d l acts (two_shown (commutes o) b x y p q)) (sym (out_bin o a c at)) (r_sums o a c x y b p q r acts at s f g h k)
  row_layer e acts items (carries {o} {a} {c} {x} {y} {b} {p} {q} {r} f k inner at s u v h ni flag span code) =
      subst (λ l. RowLayer home z d l acts (two_shown (commutes o) b x y p q)) (sym (out_bin o (expr.Bin o a c inner) (expr.Var f) at))
      (r_carries o (expr.Bin o a c inner) (expr.Var f) a c x y b p q r acts f k inner at s (out_bin o a c inner) (out_var f) u v h flag span code)
  row_layer e acts items (signs {o} {a} {x} {b} {p} {r} s f g ni k) = sign_layer o e a x b p r acts s f g k
  row_layer e acts items (times {a} {c} {x} {y} {m} {p} {q} at wide f g h ni k) =
      subst (λ l. RowLayer home z d l acts (two_shown (not (is_imm x)) (arg.Var m) x y p q)) (sym (out_bin op.Mul a c at)) (r_times a c x y m p q acts at f g h ni k)
  row_layer e acts items (times_by {a} {c} {x} {i} {m} {p} at wide f g h ni) =
      subst (λ l. RowLayer home z d l (times_by_code z m x i) (These (numbers_from p 0) ∷ [])) (sym (out_bin op.Mul a c at)) (r_times_by a c x i m p at f g h)
  row_layer e acts items (shifts {o} {a} {x} {b} {p} {r} n there at s less f g ni k) =
      subst (λ l. RowLayer home z d l acts (one_shown b x p)) (sym (out_bin o a (expr.Num (pos n) there) at))
      (r_shifts o a (expr.Num (pos n) there) x b p r acts n there at s (out_num (pos n) there) f g k)
  row_layer e acts items (shifts_by {o} {a} {x} {b} {p} {r} v k there inner at s register span f g code) =
      subst (λ l. RowLayer home z d l acts (one_shown b x p)) (sym (out_bin o a (expr.Bin op.And (expr.Var v) (expr.Num (pos (mask_of z)) there) inner) at))
      (r_shifts_by o a (expr.Bin op.And (expr.Var v) (expr.Num (pos (mask_of z)) there) inner) (expr.Var v) (expr.Num (pos (mask_of z)) there) x b p r acts v k inner at s
      (out_bin op.And (expr.Var v) (expr.Num (pos (mask_of z)) there) inner) (out_var v) register span f g code)
  row_layer e acts items (extends {a} {y} {from} {m} {p} sign at size less f ni g) =
      subst (λ l. RowLayer home z d l (extend_code sign z from m y) (These (numbers_from p 0) ∷ [])) (sym (out_cast z sign a at)) (r_extends a y from z m p sign at size less f g)
  row_layer e acts items (lowest {a} {from} {m} {n} at size more f g) =
      subst (λ l. RowLayer home z d l (move_code z (arg.Var m) (arg.Var n)) (These [] ∷ [])) (sym (out_cast z false a at)) (r_lowest a from z m n at size more f g)

-- ---- an operand is none of these layers
no_bin : (home : Homes) (z : Size) (o : BinOp) (a c : Expr) (at : Span) (x : Arg) (p : Leaks) → ArgLayer home z (Expr-F.Bin o a c at) x p → ⊥
no_bin home z o a c at x p h = elim h [ ]

no_neg : (home : Homes) (z : Size) (a : Expr) (at : Span) (x : Arg) (p : Leaks) → ArgLayer home z (Expr-F.Neg a at) x p → ⊥
no_neg home z a at x p h = elim h [ ]

no_not : (home : Homes) (z : Size) (a : Expr) (at : Span) (x : Arg) (p : Leaks) → ArgLayer home z (Expr-F.Not a at) x p → ⊥
no_not home z a at x p h = elim h [ ]

no_cast : (home : Homes) (z y : Size) (s : Bool) (a : Expr) (at : Span) (x : Arg) (p : Leaks) → ArgLayer home z (Expr-F.Cast y s a at) x p → ⊥
no_cast home z y s a at x p h = elim h [ ]

no_flag : (home : Homes) (z : Size) (f : Var) (m : ℕ) (x : Arg) (p : Leaks) → home (key_of (ref_of f)) ≡ Some (in_flag m) → ArgLayer home z (Expr-F.Var f) x p → ⊥
no_flag home z f m x p h (l_word y n g) = flag_register m n z (sym h ∙ g)
no_flag home z f m x p h (l_scalar y w g) = flag_cell m w 0 z (sym h ∙ g)

moved : (home : Homes) (z : Size) (e : Expr) (l : Layer) (x : Arg) (p : Leaks) → out-Expr e ≡ l → IsArg home z e x p → ArgLayer home z l x p
moved home z e l x p s f = subst (λ k. ArgLayer home z k x p) s (arg_layer home z e x p f)

-- ---- equal operands have equal codes
answers : (f g : Option (List Action)) (a b : List Action) → f ≡ g → f ≡ Some a → g ≡ Some b → a ≡ b
answers f g a b s e h = same_some a b (sym e ∙ s ∙ h)

pinned_is : (k j : Pinned) → k.variable ≡ j.variable → k.span ≡ j.span → k ≡ j
pinned_is k j v s = λ i. record { variable = v i; span = s i }

span_is : (f g : Var) (s t : Span) → f ≡ g → s ≡ (ref_of f).span → t ≡ (ref_of g).span → s ≡ t
span_is f g s t e h k = h ∙ ap (λ v. (ref_of v).span) e ∙ sym k

too_small : (from from2 z : Size) → from ≡ from2 → bits_of from < bits_of z → bits_of z ≤ bits_of from2 → ⊥
too_small from from2 z e h k = let s : bits_of from ≡ bits_of from2 = ap bits_of e in omega (arith, s, h, k)

module _ (home : Homes) (z : Size) (d : Lval) where
  arg_again : (a a2 : Expr) (x y : Arg) (p q : Leaks) → a ≡ a2 → IsArg home z a x p → IsArg home z a2 y q → (x ≡ y) × (p ≡ q)
  arg_again a a2 x y p q s f g = one_arg home z a x y p q f (subst (λ e. IsArg home z e y q) (sym s) g)

  two_same : (o : BinOp) (a c a2 c2 : Expr) (x y b x2 y2 b2 : Arg) (p q r p2 q2 r2 : Leaks) → a ≡ a2 → c ≡ c2 → IsArg home z a x p → IsArg home z c y q → IsDest home z d b r → IsArg home z a2 x2 p2 → IsArg home z c2 y2 q2 → IsDest home z d b2 r2
      → (x ≡ x2) × (y ≡ y2) × (b ≡ b2) × (two_shown (commutes o) b x y p q ≡ two_shown (commutes o) b2 x2 y2 p2 q2)
  two_same o a c a2 c2 x y b x2 y2 b2 p q r p2 q2 r2 sa sc f g h f2 g2 h2 =
      let u = arg_again a a2 x x2 p p2 sa f f2 in
      let v = arg_again c c2 y y2 q q2 sc g g2 in
      let w = one_dest home z d b b2 r r2 h h2 in
      (u.0, v.0, w.0, λ i. two_shown (commutes o) (w.0 i) (u.0 i) (v.0 i) (u.1 i) (v.1 i))

  one_same : (a : Expr) (x b x2 b2 : Arg) (p r p2 r2 : Leaks) → IsArg home z a x p → IsDest home z d b r → IsArg home z a x2 p2 → IsDest home z d b2 r2
      → (x ≡ x2) × (b ≡ b2) × (one_shown b x p ≡ one_shown b2 x2 p2)
  one_same a x b x2 b2 p r p2 r2 f g f2 g2 =
      let u = one_arg home z a x x2 p p2 f f2 in
      let w = one_dest home z d b b2 r r2 g g2 in
      (u.0, w.0, λ i. one_shown (w.0 i) (u.0 i) (u.1 i))

  word_same : (m n : ℕ) → IsDest home z d (arg.Var m) silent → IsDest home z d (arg.Var n) silent → m ≡ n
  word_same m n f g = var_is m n (one_dest home z d (arg.Var m) (arg.Var n) silent silent f g).0

  one_at_layer : (l : Layer) (e : Expr) (acts us : List Action) (is js : List Numbers) → out-Expr e ≡ l → RowLayer home z d l acts is → RowLayer home z d l us js → (acts ≡ us) × (is ≡ js)
  one_at_layer l e acts us is js s (r_moves l1 f x b p r s1 g h) (r_moves l2 f2 x2 b2 p2 r2 s2 g2 h2) =
      let u = one_at home z l x x2 p p2 (moved home z f l x p s1 g) (moved home z f2 l x2 p2 s2 g2) in
      let v = one_dest home z d b b2 r r2 h h2 in
      ((λ i. move_code z (v.0 i) (u.0 i)), λ i. These (numbers_from (v.1 i) (count_of (u.1 i)) ++ numbers_from (u.1 i) 0) ∷ [])
  one_at_layer l e acts us is js s (r_moves l1 f x b p r s1 g h) (r_sums o2 a2 c2 x2 y2 b2 p2 q2 r2 as2 at2 op2 f2 g2 h2 k2) = absurd (no_bin home z o2 a2 c2 at2 x p (moved home z f (Expr-F.Bin o2 a2 c2 at2) x p s1 g))
  one_at_layer l e acts us is js s (r_moves l1 f x b p r s1 g h) (r_carries o2 i2 j2 a2 c2 x2 y2 b2 p2 q2 r2 as2 v2 k2 inner2 at2 op2 e3 e4 f2 g2 h2 flag2 span2 code2) = absurd (no_bin home z o2 i2 j2 at2 x p (moved home z f (Expr-F.Bin o2 i2 j2 at2) x p s1 g))
  one_at_layer l e acts us is js s (r_moves l1 f x b p r s1 g h) (r_minus a2 x2 b2 p2 r2 as2 at2 f2 g2 k2) = absurd (no_neg home z a2 at2 x p (moved home z f (Expr-F.Neg a2 at2) x p s1 g))
  one_at_layer l e acts us is js s (r_moves l1 f x b p r s1 g h) (r_not a2 x2 b2 p2 r2 as2 at2 f2 g2 k2) = absurd (no_not home z a2 at2 x p (moved home z f (Expr-F.Not a2 at2) x p s1 g))
  one_at_layer l e acts us is js s (r_moves l1 f x b p r s1 g h) (r_times a2 c2 x2 y2 m2 p2 q2 as2 at2 f2 g2 h2 ni2 k2) = absurd (no_bin home z op.Mul a2 c2 at2 x p (moved home z f (Expr-F.Bin op.Mul a2 c2 at2) x p s1 g))
  one_at_layer l e acts us is js s (r_moves l1 f x b p r s1 g h) (r_times_by a2 c2 x2 i2 m2 p2 at2 f2 g2 h2) = absurd (no_bin home z op.Mul a2 c2 at2 x p (moved home z f (Expr-F.Bin op.Mul a2 c2 at2) x p s1 g))
  one_at_layer l e acts us is js s (r_moves l1 f x b p r s1 g h) (r_shifts o2 a2 g2 x2 b2 p2 r2 as2 n2 there2 at2 op2 e2x f2 h2 k2) = absurd (no_bin home z o2 a2 g2 at2 x p (moved home z f (Expr-F.Bin o2 a2 g2 at2) x p s1 g))
  one_at_layer l e acts us is js s (r_moves l1 f x b p r s1 g h) (r_shifts_by o2 a2 g2 u2 m2 x2 b2 p2 r2 as2 v2 k2 inner2 at2 op2 e3 e4 register2 span2 f2 h2 code2) = absurd (no_bin home z o2 a2 g2 at2 x p (moved home z f (Expr-F.Bin o2 a2 g2 at2) x p s1 g))
  one_at_layer l e acts us is js s (r_moves l1 f x b p r s1 g h) (r_extends a2 y2 from2 w2 m2 p2 sign2 at2 size2 less2 f2 g2) = absurd (no_cast home z w2 sign2 a2 at2 x p (moved home z f (Expr-F.Cast w2 sign2 a2 at2) x p s1 g))
  one_at_layer l e acts us is js s (r_moves l1 f x b p r s1 g h) (r_lowest a2 from2 w2 m2 n2 at2 size2 more2 f2 g2) = absurd (no_cast home z w2 false a2 at2 x p (moved home z f (Expr-F.Cast w2 false a2 at2) x p s1 g))
  one_at_layer l e acts us is js s (r_sums o a c x y b p q r as1 at op1 f g h k) (r_moves l2 f2 x2 b2 p2 r2 s2 g2 h2) = absurd (no_bin home z o a c at x2 p2 (moved home z f2 (Expr-F.Bin o a c at) x2 p2 s2 g2))
  one_at_layer l e acts us is js s (r_sums o a c x y b p q r as1 at op1 f g h k) (r_sums o2 a2 c2 x2 y2 b2 p2 q2 r2 as2 at2 op2 f2 g2 h2 k2) =
      let t = two_same o a c a c x y b x2 y2 b2 p q r p2 q2 r2 refl refl f g h f2 g2 h2 in
      (answers _ _ acts us (λ i. two_code (alu_of o) (commutes o) z (t.2 i) (t.0 i) (t.1 i) None) k k2, t.3)
  one_at_layer l e acts us is js s (r_sums o a c x y b p q r as1 at op1 f g h k) (r_carries o2 i2 j2 a2 c2 x2 y2 b2 p2 q2 r2 as2 v2 k2 inner2 at2 op2 e3 e4 f2 g2 h2 flag2 span2 code2) = absurd (no_flag home z v2 k2.variable y q flag2 (moved home z c (Expr-F.Var v2) y q e4 g))
  one_at_layer l e acts us is js s (r_sums o a c x y b p q r as1 at op1 f g h k) (r_times a2 c2 x2 y2 m2 p2 q2 as2 at2 f2 g2 h2 ni2 k2) = absurd (sum_times (group o) (sum_group o op1) (refl))
  one_at_layer l e acts us is js s (r_sums o a c x y b p q r as1 at op1 f g h k) (r_times_by a2 c2 x2 i2 m2 p2 at2 f2 g2 h2) = absurd (sum_times (group o) (sum_group o op1) (refl))
  one_at_layer l e acts us is js s (r_sums o a c x y b p q r as1 at op1 f g h k) (r_shifts o2 a2 g2 x2 b2 p2 r2 as2 n2 there2 at2 op2 e2x f2 h2 k2) = absurd (sum_shift (group o) (sum_group o op1) (shift_group o op2))
  one_at_layer l e acts us is js s (r_sums o a c x y b p q r as1 at op1 f g h k) (r_shifts_by o2 a2 g2 u2 m2 x2 b2 p2 r2 as2 v2 k2 inner2 at2 op2 e3 e4 register2 span2 f2 h2 code2) = absurd (sum_shift (group o) (sum_group o op1) (shift_group o op2))
  one_at_layer l e acts us is js s (r_carries o i j a c x y b p q r as1 v k inner at op1 e1 e2 f g h flag span code) (r_moves l2 f2 x2 b2 p2 r2 s2 g2 h2) = absurd (no_bin home z o i j at x2 p2 (moved home z f2 (Expr-F.Bin o i j at) x2 p2 s2 g2))
  one_at_layer l e acts us is js s (r_carries o i j a c x y b p q r as1 v k inner at op1 e1 e2 f g h flag span code) (r_sums o2 a2 c2 x2 y2 b2 p2 q2 r2 as2 at2 op2 f2 g2 h2 k2) = absurd (no_flag home z v k.variable y2 q2 flag (moved home z j (Expr-F.Var v) y2 q2 e2 g2))
  one_at_layer l e acts us is js s (r_carries o i j a c x y b p q r as1 v k inner at op1 e1 e2 f g h flag span code) (r_carries o2 i2 j2 a2 c2 x2 y2 b2 p2 q2 r2 as2 v2 k2 inner2 at2 op2 e3 e4 f2 g2 h2 flag2 span2 code2) =
      let inside = sym e1 ∙ e3 in
      let t = two_same o a c a2 c2 x y b x2 y2 b2 p q r p2 q2 r2
      (first_of o o a c a2 c2 inner inner2 inside) (second_of o o a c a2 c2 inner inner2 inside) f g h f2 g2 h2 in
      let var = same_var v v2 (sym e2 ∙ e4) in
      let flag_one = flag_is k.variable k2.variable (sym flag ∙ ap (λ u. home (key_of (ref_of u))) var ∙ flag2) in
      let pin = pinned_is k k2 flag_one (span_is v v2 k.span k2.span var span span2) in
      (answers _ _ acts us (λ i. two_code (carry_alu o) (commutes o) z (t.2 i) (t.0 i) (t.1 i) (Some (pin i))) code code2, t.3)
  one_at_layer l e acts us is js s (r_carries o i j a c x y b p q r as1 v k inner at op1 e1 e2 f g h flag span code) (r_times a2 c2 x2 y2 m2 p2 q2 as2 at2 f2 g2 h2 ni2 k2) = absurd (sum_times (group o) (carry_group o op1) (refl))
  one_at_layer l e acts us is js s (r_carries o i j a c x y b p q r as1 v k inner at op1 e1 e2 f g h flag span code) (r_times_by a2 c2 x2 i2 m2 p2 at2 f2 g2 h2) = absurd (sum_times (group o) (carry_group o op1) (refl))
  one_at_layer l e acts us is js s (r_carries o i j a c x y b p q r as1 v k inner at op1 e1 e2 f g h flag span code) (r_shifts o2 a2 g2 x2 b2 p2 r2 as2 n2 there2 at2 op2 e2x f2 h2 k2) = absurd (sum_shift (group o) (carry_group o op1) (shift_group o op2))
  one_at_layer l e acts us is js s (r_carries o i j a c x y b p q r as1 v k inner at op1 e1 e2 f g h flag span code) (r_shifts_by o2 a2 g2 u2 m2 x2 b2 p2 r2 as2 v2 k2 inner2 at2 op2 e3 e4 register2 span2 f2 h2 code2) = absurd (sum_shift (group o) (carry_group o op1) (shift_group o op2))
  one_at_layer l e acts us is js s (r_minus a x b p r as1 at f g k) (r_moves l2 f2 x2 b2 p2 r2 s2 g2 h2) = absurd (no_neg home z a at x2 p2 (moved home z f2 (Expr-F.Neg a at) x2 p2 s2 g2))
  one_at_layer l e acts us is js s (r_minus a x b p r as1 at f g k) (r_minus a2 x2 b2 p2 r2 as2 at2 f2 g2 k2) =
      let t = one_same a x b x2 b2 p r p2 r2 f g f2 g2 in
      (answers _ _ acts us (λ i. one_code one.Neg z (t.1 i) (t.0 i)) k k2, t.2)
  one_at_layer l e acts us is js s (r_not a x b p r as1 at f g k) (r_moves l2 f2 x2 b2 p2 r2 s2 g2 h2) = absurd (no_not home z a at x2 p2 (moved home z f2 (Expr-F.Not a at) x2 p2 s2 g2))
  one_at_layer l e acts us is js s (r_not a x b p r as1 at f g k) (r_not a2 x2 b2 p2 r2 as2 at2 f2 g2 k2) =
      let t = one_same a x b x2 b2 p r p2 r2 f g f2 g2 in
      (answers _ _ acts us (λ i. one_code one.Not z (t.1 i) (t.0 i)) k k2, t.2)
  one_at_layer l e acts us is js s (r_times a c x y m p q as1 at f g h ni k) (r_moves l2 f2 x2 b2 p2 r2 s2 g2 h2) = absurd (no_bin home z op.Mul a c at x2 p2 (moved home z f2 (Expr-F.Bin op.Mul a c at) x2 p2 s2 g2))
  one_at_layer l e acts us is js s (r_times a c x y m p q as1 at f g h ni k) (r_sums o2 a2 c2 x2 y2 b2 p2 q2 r2 as2 at2 op2 f2 g2 h2 k2) = absurd (sum_times (group op.Mul) (sum_group op.Mul op2) (refl))
  one_at_layer l e acts us is js s (r_times a c x y m p q as1 at f g h ni k) (r_carries o2 i2 j2 a2 c2 x2 y2 b2 p2 q2 r2 as2 v2 k2 inner2 at2 op2 e3 e4 f2 g2 h2 flag2 span2 code2) = absurd (sum_times (group op.Mul) (carry_group op.Mul op2) (refl))
  one_at_layer l e acts us is js s (r_times a c x y m p q as1 at f g h ni k) (r_times a2 c2 x2 y2 m2 p2 q2 as2 at2 f2 g2 h2 ni2 k2) =
      let u = one_arg home z a x x2 p p2 f f2 in
      let v = one_arg home z c y y2 q q2 g g2 in
      let w = word_same m m2 h h2 in
      (answers _ _ acts us (λ i. times_code z (w i) (u.0 i) (v.0 i)) k k2, λ i. two_shown (not (is_imm (u.0 i))) (arg.Var (w i)) (u.0 i) (v.0 i) (u.1 i) (v.1 i))
  one_at_layer l e acts us is js s (r_times a c x y m p q as1 at f g h ni k) (r_times_by a2 c2 x2 i2 m2 p2 at2 f2 g2 h2) = absurd (subst NotImm (one_arg home z c y (arg.Imm i2) q silent g g2).0 ni)
  one_at_layer l e acts us is js s (r_times a c x y m p q as1 at f g h ni k) (r_shifts o2 a2 g2 x2 b2 p2 r2 as2 n2 there2 at2 op2 e2x f2 h2 k2) = absurd (times_shift (group op.Mul) (refl) (shift_group op.Mul op2))
  one_at_layer l e acts us is js s (r_times a c x y m p q as1 at f g h ni k) (r_shifts_by o2 a2 g2 u2 m2 x2 b2 p2 r2 as2 v2 k2 inner2 at2 op2 e3 e4 register2 span2 f2 h2 code2) = absurd (times_shift (group op.Mul) (refl) (shift_group op.Mul op2))
  one_at_layer l e acts us is js s (r_times_by a c x i m p at f g h) (r_moves l2 f2 x2 b2 p2 r2 s2 g2 h2) = absurd (no_bin home z op.Mul a c at x2 p2 (moved home z f2 (Expr-F.Bin op.Mul a c at) x2 p2 s2 g2))
  one_at_layer l e acts us is js s (r_times_by a c x i m p at f g h) (r_sums o2 a2 c2 x2 y2 b2 p2 q2 r2 as2 at2 op2 f2 g2 h2 k2) = absurd (sum_times (group op.Mul) (sum_group op.Mul op2) (refl))
  one_at_layer l e acts us is js s (r_times_by a c x i m p at f g h) (r_carries o2 i2 j2 a2 c2 x2 y2 b2 p2 q2 r2 as2 v2 k2 inner2 at2 op2 e3 e4 f2 g2 h2 flag2 span2 code2) = absurd (sum_times (group op.Mul) (carry_group op.Mul op2) (refl))
  one_at_layer l e acts us is js s (r_times_by a c x i m p at f g h) (r_times a2 c2 x2 y2 m2 p2 q2 as2 at2 f2 g2 h2 ni2 k2) = absurd (subst NotImm (sym (one_arg home z c (arg.Imm i) y2 silent q2 g g2).0) ni2)
  one_at_layer l e acts us is js s (r_times_by a c x i m p at f g h) (r_times_by a2 c2 x2 i2 m2 p2 at2 f2 g2 h2) =
      let u = one_arg home z a x x2 p p2 f f2 in
      let v = imm_is i i2 (one_arg home z c (arg.Imm i) (arg.Imm i2) silent silent g g2).0 in
      let w = word_same m m2 h h2 in
      ((λ j. times_by_code z (w j) (u.0 j) (v j)), λ j. These (numbers_from (u.1 j) 0) ∷ [])
  one_at_layer l e acts us is js s (r_times_by a c x i m p at f g h) (r_shifts o2 a2 g2 x2 b2 p2 r2 as2 n2 there2 at2 op2 e2x f2 h2 k2) = absurd (times_shift (group op.Mul) (refl) (shift_group op.Mul op2))
  one_at_layer l e acts us is js s (r_times_by a c x i m p at f g h) (r_shifts_by o2 a2 g2 u2 m2 x2 b2 p2 r2 as2 v2 k2 inner2 at2 op2 e3 e4 register2 span2 f2 h2 code2) = absurd (times_shift (group op.Mul) (refl) (shift_group op.Mul op2))
  one_at_layer l e acts us is js s (r_shifts o a g x b p r as1 n there at op1 e1 f h k) (r_moves l2 f2 x2 b2 p2 r2 s2 g2 h2) = absurd (no_bin home z o a g at x2 p2 (moved home z f2 (Expr-F.Bin o a g at) x2 p2 s2 g2))
  one_at_layer l e acts us is js s (r_shifts o a g x b p r as1 n there at op1 e1 f h k) (r_sums o2 a2 c2 x2 y2 b2 p2 q2 r2 as2 at2 op2 f2 g2 h2 k2) = absurd (sum_shift (group o) (sum_group o op2) (shift_group o op1))
  one_at_layer l e acts us is js s (r_shifts o a g x b p r as1 n there at op1 e1 f h k) (r_carries o2 i2 j2 a2 c2 x2 y2 b2 p2 q2 r2 as2 v2 k2 inner2 at2 op2 e3 e4 f2 g2 h2 flag2 span2 code2) = absurd (sum_shift (group o) (carry_group o op2) (shift_group o op1))
  one_at_layer l e acts us is js s (r_shifts o a g x b p r as1 n there at op1 e1 f h k) (r_times a2 c2 x2 y2 m2 p2 q2 as2 at2 f2 g2 h2 ni2 k2) = absurd (times_shift (group o) (refl) (shift_group o op1))
  one_at_layer l e acts us is js s (r_shifts o a g x b p r as1 n there at op1 e1 f h k) (r_times_by a2 c2 x2 i2 m2 p2 at2 f2 g2 h2) = absurd (times_shift (group o) (refl) (shift_group o op1))
  one_at_layer l e acts us is js s (r_shifts o a g x b p r as1 n there at op1 e1 f h k) (r_shifts o2 a2 g2 x2 b2 p2 r2 as2 n2 there2 at2 op2 e2x f2 h2 k2) =
      let t = one_same a x b x2 b2 p r p2 r2 f h f2 h2 in
      let count = count_is n n2 there there2 (sym e1 ∙ e2x) in
      (answers _ _ acts us (λ i. shift_code (shift_of o) z (t.1 i) (t.0 i) (count i)) k k2, t.2)
  one_at_layer l e acts us is js s (r_shifts o a g x b p r as1 n there at op1 e1 f h k) (r_shifts_by o2 a2 g2 u2 m2 x2 b2 p2 r2 as2 v2 k2 inner2 at2 op2 e3 e4 register2 span2 f2 h2 code2) = absurd (num_bin (pos n) op.And u2 m2 there inner2 (sym e1 ∙ e3))
  one_at_layer l e acts us is js s (r_shifts_by o a g u m x b p r as1 v k inner at op1 e1 e2 register span f h code) (r_moves l2 f2 x2 b2 p2 r2 s2 g2 h2) = absurd (no_bin home z o a g at x2 p2 (moved home z f2 (Expr-F.Bin o a g at) x2 p2 s2 g2))
  one_at_layer l e acts us is js s (r_shifts_by o a g u m x b p r as1 v k inner at op1 e1 e2 register span f h code) (r_sums o2 a2 c2 x2 y2 b2 p2 q2 r2 as2 at2 op2 f2 g2 h2 k2) = absurd (sum_shift (group o) (sum_group o op2) (shift_group o op1))
  one_at_layer l e acts us is js s (r_shifts_by o a g u m x b p r as1 v k inner at op1 e1 e2 register span f h code) (r_carries o2 i2 j2 a2 c2 x2 y2 b2 p2 q2 r2 as2 v2 k2 inner2 at2 op2 e3 e4 f2 g2 h2 flag2 span2 code2) = absurd (sum_shift (group o) (carry_group o op2) (shift_group o op1))
  one_at_layer l e acts us is js s (r_shifts_by o a g u m x b p r as1 v k inner at op1 e1 e2 register span f h code) (r_times a2 c2 x2 y2 m2 p2 q2 as2 at2 f2 g2 h2 ni2 k2) = absurd (times_shift (group o) (refl) (shift_group o op1))
  one_at_layer l e acts us is js s (r_shifts_by o a g u m x b p r as1 v k inner at op1 e1 e2 register span f h code) (r_times_by a2 c2 x2 i2 m2 p2 at2 f2 g2 h2) = absurd (times_shift (group o) (refl) (shift_group o op1))
  one_at_layer l e acts us is js s (r_shifts_by o a g u m x b p r as1 v k inner at op1 e1 e2 register span f h code) (r_shifts o2 a2 g2 x2 b2 p2 r2 as2 n2 there2 at2 op2 e2x f2 h2 k2) = absurd (num_bin (pos n2) op.And u m there2 inner (sym e2x ∙ e1))
  one_at_layer l e acts us is js s (r_shifts_by o a g u m x b p r as1 v k inner at op1 e1 e2 register span f h code) (r_shifts_by o2 a2 g2 u2 m2 x2 b2 p2 r2 as2 v2 k2 inner2 at2 op2 e3 e4 register2 span2 f2 h2 code2) =
      let t = one_same a x b x2 b2 p r p2 r2 f h f2 h2 in
      let inside = first_of op.And op.And u m u2 m2 inner inner2 (sym e1 ∙ e3) in
      let var = same_var v v2 (sym e2 ∙ ap out-Expr inside ∙ e4) in
      let one = register_of k.variable k2.variable S8 S8 (sym register ∙ ap (λ w. home (key_of (ref_of w))) var ∙ register2) in
      let pin = pinned_is k k2 one (span_is v v2 k.span k2.span var span span2) in
      (answers _ _ acts us (λ i. shift_by_code (shift_of o) z (t.1 i) (t.0 i) (pin i)) code code2, t.2)
  one_at_layer l e acts us is js s (r_extends a y from w m p sign at size less f g) (r_moves l2 f2 x2 b2 p2 r2 s2 g2 h2) = absurd (no_cast home z w sign a at x2 p2 (moved home z f2 (Expr-F.Cast w sign a at) x2 p2 s2 g2))
  one_at_layer l e acts us is js s (r_extends a y from w m p sign at size less f g) (r_extends a2 y2 from2 w2 m2 p2 sign2 at2 size2 less2 f2 g2) =
      let from_is = same_some from from2 (sym size ∙ size2) in
      let u = one_arg home from a y y2 p p2 f (subst (λ t. IsArg home t a y2 p2) (sym from_is) f2) in
      let w1 = word_same m m2 g g2 in
      ((λ i. extend_code sign z (from_is i) (w1 i) (u.0 i)), λ i. These (numbers_from (u.1 i) 0) ∷ [])
  one_at_layer l e acts us is js s (r_extends a y from w m p sign at size less f g) (r_lowest a2 from2 w2 m2 n2 at2 size2 more2 f2 g2) = absurd (let from_is = same_some from from2 (sym size ∙ size2) in too_small from from2 z from_is less more2)
  one_at_layer l e acts us is js s (r_lowest a from w m n at size more f g) (r_moves l2 f2 x2 b2 p2 r2 s2 g2 h2) = absurd (no_cast home z w false a at x2 p2 (moved home z f2 (Expr-F.Cast w false a at) x2 p2 s2 g2))
  one_at_layer l e acts us is js s (r_lowest a from w m n at size more f g) (r_extends a2 y2 from2 w2 m2 p2 sign2 at2 size2 less2 f2 g2) = absurd (let from_is = same_some from2 from (sym size2 ∙ size) in too_small from2 from z from_is less2 more)
  one_at_layer l e acts us is js s (r_lowest a from w m n at size more f g) (r_lowest a2 from2 w2 m2 n2 at2 size2 more2 f2 g2) =
      let from_is = same_some from from2 (sym size ∙ size2) in
      let u = one_arg home from a (arg.Var n) (arg.Var n2) silent silent f (subst (λ t. IsArg home t a (arg.Var n2) silent) (sym from_is) f2) in
      let w1 = word_same m m2 g g2 in
      ((λ i. move_code z (arg.Var (w1 i)) (u.0 i)), refl)

  pub one_row : (e : Expr) (acts us : List Action) (is js : List Numbers) → HasRow home z d e acts is → HasRow home z d e us js → (acts ≡ us) × (is ≡ js)
  one_row e acts us is js f g = one_at_layer (out-Expr e) e acts us is js refl (row_layer home z d e acts is f) (row_layer home z d e us js g)
