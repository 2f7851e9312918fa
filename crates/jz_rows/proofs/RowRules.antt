-- The rows of an expression by its outermost layer, and what excludes each of them.
use Rattle.std.proofs.Common.{◌≡◌, ℕ, ◌<◌, ◌≤◌, Bool, true, false, List, Option, Some, None, refl, sym, ap, ◌∙◌, subst, arith, ℤ, pos}
use Rattle.std.specs.Prelude.{not, ◌&&◌, All}
use Rattle.jz_words.specs.declared.size.Size.{Size}
use Rattle.jz_words.specs.declared.size.Size.TheVariants.{S8}
use Rattle.jz_words.specs.Sizes.{bits_of}
use Rattle.jz_tree.specs.Span.{Span}
use Rattle.x64_insn.specs.declared.types.One.{One}
use Rattle.x64_insn.specs.declared.types.One.TheVariants as one
use Rattle.x64_insn.specs.Chosen.{fits_bytes}
use Rattle.jz_tree.specs.declared.expr.BinOp.{BinOp}
use Rattle.jz_tree.specs.declared.expr.BinOp.TheVariants as op
use Rattle.jz_tree.specs.declared.expr.Expr.{Expr}
use Rattle.jz_tree.specs.declared.expr.Expr.TheVariants as expr
use Rattle.jz_tree.specs.declared.expr.Expr.TheOpen.{Expr-F}
use Rattle.jz_tree.specs.declared.expr.Expr.TheViews.{out-Expr, roll-Expr, roll-out-Expr}
use Rattle.jz_tree.specs.declared.expr.Var.{Var}
use Rattle.jz_tree.specs.declared.stmt.Lval.{Lval}
use Rattle.jz_meaning.specs.Assignments.{Layer}
use Rattle.jz_meaning.specs.Values.{key_of, ref_of, own_size}
use Rattle.jz_operations.specs.declared.operation.Pinned.{Pinned}
use Rattle.jz_operations.specs.declared.operation.Arg.{Arg}
use Rattle.jz_operations.specs.declared.operation.Arg.TheVariants as arg
use Rattle.jz_operations.specs.declared.operation.Action.{Action}
use Rattle.jz_operations.specs.declared.operation.Action.TheVariants as action
use Rattle.jz_encodable.specs.Encodable.{CanEncode}
use Rattle.jz_change.specs.declared.change.Numbers.{Numbers}
use Rattle.jz_homes.specs.Homes.{Home, Homes, in_register, in_flag}
use Rattle.jz_homes.specs.Operands.{Leaks, silent, IsArg, IsDest}
use Rattle.jz_row_operations.specs.Rows.{IsWide, NotImm, NotBothImm, IsSumOp, alu_of, commutes, IsCarryOp, carry_alu, IsSign, a_minus, a_not, IsShiftOp, shift_of, mask_of}
use Rattle.jz_row_operations.specs.Table.{is_imm, nothing, brought, behind, move_code, two_code, one_code, times_code, times_by_code, shift_code, shift_by_code, extend_code}
use Rattle.jz_row_operations.specs.Lowering.{HasRow, moves, sums, carries, signs, times, times_by, shifts, shifts_by, extends, lowest}
use Rattle.jz_one_row.proofs.Outs.{out_bin, out_cast, out_neg, out_not, out_num, out_var}
use Rattle.jz_one_row.proofs.Operands.{one_arg, one_dest}
use Rattle.jz_operands.specs.declared.operands.Leaks as code
use Rattle.jz_operands.specs.declared.operands.Leaks.TheVariants.{Silent, Hidden, Told}
use Rattle.jz_operands.specs.declared.operands.Operand.{Operand}
use Rattle.jz_operands.specs.TableHomes.{homes_of, leaks_of}
use Rattle.jz_operands.specs.Refusals.{HasFields, NeverArg, NeverDest}
use Rattle.jz_operands.proofs.OperandRefusals.{never_bin}
use Rattle.jz_rows.specs.declared.targets.Target.{Target}
use Rattle.jz_rows.specs.Found.{Rule, Moves, Sums, Carries, Signs, Times, TimesBy, Shifts, ShiftsBy, Extends, Lowest, rule_of, NeverBy, NeverRow}
use Rattle.jz_rows.proofs.FieldLemmas.{alu_fields, mov_fields, one_fields, imul_fields, imul_by_fields, shift_fields, shift_by_fields, extend_fields, only_can, two_fields, one_operand}

-- ---- rows by the outermost layer
pub data RowAt (home : Homes) (z : Size) (d : Lval) (e : Expr) : Rule → Layer → List Action → Type 0 where
  r_moves : (l : Layer) (x b : Arg) (p r : Leaks) → IsArg home z e x p → IsDest home z d b r → RowAt home z d e Moves l (move_code z b x)
  r_sums : (o : BinOp) (a c : Expr) (x y b : Arg) (p q r : Leaks) (acts : List Action) (at : Span) → IsSumOp o → IsArg home z a x p → IsArg home z c y q → IsDest home z d b r → NotBothImm x y
      → two_code (alu_of o) (commutes o) z b x y None ≡ Some acts → RowAt home z d e Sums (Expr-F.Bin o a c at) acts
  r_carries : (o : BinOp) (i g a c : Expr) (x y b : Arg) (p q r : Leaks) (acts : List Action) (f : Var) (k : Pinned) (inner at : Span) → out-Expr i ≡ Expr-F.Bin o a c inner → out-Expr g ≡ Expr-F.Var f → IsCarryOp o → IsArg home z a x p → IsArg home z c y q
      → IsDest home z d b r → NotBothImm x y → home (key_of (ref_of f)) ≡ Some (in_flag k.variable) → two_code (carry_alu o) (commutes o) z b x y (Some k) ≡ Some acts → RowAt home z d e Carries (Expr-F.Bin o i g at) acts
  r_minus : (a : Expr) (x b : Arg) (p r : Leaks) (acts : List Action) (at : Span) → IsArg home z a x p → IsDest home z d b r → NotImm x → one_code one.Neg z b x ≡ Some acts → RowAt home z d e Signs (Expr-F.Neg a at) acts
  r_not : (a : Expr) (x b : Arg) (p r : Leaks) (acts : List Action) (at : Span) → IsArg home z a x p → IsDest home z d b r → NotImm x → one_code one.Not z b x ≡ Some acts → RowAt home z d e Signs (Expr-F.Not a at) acts
  r_times : (a c : Expr) (x y : Arg) (m : ℕ) (p q : Leaks) (acts : List Action) (at : Span) → IsWide z → IsArg home z a x p → IsArg home z c y q → IsDest home z d (arg.Var m) silent → NotImm y → times_code z m x y ≡ Some acts
      → RowAt home z d e Times (Expr-F.Bin op.Mul a c at) acts
  r_times_by : (a c : Expr) (x : Arg) (i : ℤ) (m : ℕ) (p : Leaks) (at : Span) → IsWide z → IsArg home z a x p → IsArg home z c (arg.Imm i) silent → IsDest home z d (arg.Var m) silent → NotImm x
      → RowAt home z d e TimesBy (Expr-F.Bin op.Mul a c at) (times_by_code z m x i)
  r_shifts : (o : BinOp) (a g : Expr) (x b : Arg) (p r : Leaks) (acts : List Action) (n : ℕ) (there at : Span) → out-Expr g ≡ Expr-F.Num (pos n) there → IsShiftOp o → n < bits_of z → IsArg home z a x p → IsDest home z d b r → NotImm x
      → shift_code (shift_of o) z b x n ≡ Some acts → RowAt home z d e Shifts (Expr-F.Bin o a g at) acts
  r_shifts_by : (o : BinOp) (a g u m : Expr) (x b : Arg) (p r : Leaks) (acts : List Action) (v : Var) (k : Pinned) (there inner at : Span) → out-Expr g ≡ Expr-F.Bin op.And u m inner → out-Expr u ≡ Expr-F.Var v → out-Expr m ≡ Expr-F.Num (pos (mask_of z)) there
      → IsShiftOp o → home (key_of (ref_of v)) ≡ Some (in_register k.variable S8) → IsArg home z a x p → IsDest home z d b r → shift_by_code (shift_of o) z b x k ≡ Some acts → RowAt home z d e ShiftsBy (Expr-F.Bin o a g at) acts
  r_extends : (a : Expr) (y : Arg) (from : Size) (m : ℕ) (p : Leaks) (sign : Bool) (at : Span) → own_size a ≡ Some from → bits_of from < bits_of z → IsArg home from a y p → NotImm y → IsDest home z d (arg.Var m) silent
      → RowAt home z d e Extends (Expr-F.Cast z sign a at) (extend_code sign z from m y)
  r_lowest : (a : Expr) (from : Size) (m n : ℕ) (at : Span) → own_size a ≡ Some from → bits_of z ≤ bits_of from → IsArg home from a (arg.Var n) silent → IsDest home z d (arg.Var m) silent
      → RowAt home z d e Lowest (Expr-F.Cast z false a at) (move_code z (arg.Var m) (arg.Var n))

module _ (home : Homes) (z : Size) (d : Lval) where
  sign_at : (o : One) (e a : Expr) (x b : Arg) (p r : Leaks) (acts : List Action) → IsSign o e a → IsArg home z a x p → IsDest home z d b r → NotImm x → one_code o z b x ≡ Some acts → RowAt home z d e Signs (out-Expr e) acts
  sign_at o e a x b p r acts (a_minus a2 at) f g ni c = subst (λ l. RowAt home z d e Signs l acts) (sym (out_neg a at)) (r_minus a x b p r acts at f g ni c)
  sign_at o e a x b p r acts (a_not a2 at) f g ni c = subst (λ l. RowAt home z d e Signs l acts) (sym (out_not a at)) (r_not a x b p r acts at f g ni c)

  pub row_in : (e : Expr) (acts : List Action) (items : List Numbers) (row : HasRow home z d e acts items) → RowAt home z d e (rule_of home z d e acts items row) (out-Expr e) acts
  row_in e acts items (moves {x} {b} {p} {r} f g) = r_moves (out-Expr e) x b p r f g
  row_in e acts items (sums {o} {a} {c} {x} {y} {b} {p} {q} {r} at s f g h ni k) = subst (λ l. RowAt home z d e Sums l acts) (sym (out_bin o a c at)) (r_sums o a c x y b p q r acts at s f g h ni k)
  row_in e acts items (carries {o} {a} {c} {x} {y} {b} {p} {q} {r} f k inner at s u v h ni flag span code) =
      subst (λ l. RowAt home z d e Carries l acts) (sym (out_bin o (expr.Bin o a c inner) (expr.Var f) at))
      (r_carries o (expr.Bin o a c inner) (expr.Var f) a c x y b p q r acts f k inner at (out_bin o a c inner) (out_var f) s u v h ni flag code)
  row_in e acts items (signs {o} {a} {x} {b} {p} {r} s f g ni k) = sign_at o e a x b p r acts s f g ni k
  row_in e acts items (times {a} {c} {x} {y} {m} {p} {q} at wide f g h ni k) = subst (λ l. RowAt home z d e Times l acts) (sym (out_bin op.Mul a c at)) (r_times a c x y m p q acts at wide f g h ni k)
  row_in e acts items (times_by {a} {c} {x} {i} {m} {p} at wide f g h ni) = subst (λ l. RowAt home z d e TimesBy l (times_by_code z m x i)) (sym (out_bin op.Mul a c at)) (r_times_by a c x i m p at wide f g h ni)
  row_in e acts items (shifts {o} {a} {x} {b} {p} {r} n there at s less f g ni k) =
      subst (λ l. RowAt home z d e Shifts l acts) (sym (out_bin o a (expr.Num (pos n) there) at)) (r_shifts o a (expr.Num (pos n) there) x b p r acts n there at (out_num (pos n) there) s less f g ni k)
  row_in e acts items (shifts_by {o} {a} {x} {b} {p} {r} v k there inner at s register span f g code) =
      subst (λ l. RowAt home z d e ShiftsBy l acts) (sym (out_bin o a (expr.Bin op.And (expr.Var v) (expr.Num (pos (mask_of z)) there) inner) at))
      (r_shifts_by o a (expr.Bin op.And (expr.Var v) (expr.Num (pos (mask_of z)) there) inner) (expr.Var v) (expr.Num (pos (mask_of z)) there) x b p r acts v k there inner at
      (out_bin op.And (expr.Var v) (expr.Num (pos (mask_of z)) there) inner) (out_var v) (out_num (pos (mask_of z)) there) s register f g code)
  row_in e acts items (extends {a} {y} {from} {m} {p} sign at size less f ni g) = subst (λ l. RowAt home z d e Extends l (extend_code sign z from m y)) (sym (out_cast z sign a at)) (r_extends a y from m p sign at size less f ni g)
  row_in e acts items (lowest {a} {from} {m} {n} at size more f g) = subst (λ l. RowAt home z d e Lowest l (move_code z (arg.Var m) (arg.Var n))) (sym (out_cast z false a at)) (r_lowest a from m n at size more f g)

-- none is told by none at its layer
pub never_by : (t : Target) (r : Rule) (e : Expr) (l : Layer) → out-Expr e ≡ l → ((acts : List Action) → RowAt (homes_of t.homes.now) t.size t.to.now e r l acts → All CanEncode acts → ⊥) → NeverBy r t e
never_by t r e l s none acts items row is can =
    let home = homes_of t.homes.now in
    none acts (subst (λ q. RowAt home t.size t.to.now e q l acts) is (subst (λ k. RowAt home t.size t.to.now e (rule_of home t.size t.to.now e acts items row) k acts) s (row_in home t.size t.to.now e acts items row))) can

pub never_any : (t : Target) (e : Expr) → ((r : Rule) → NeverBy r t e) → NeverRow t e
never_any t e none acts items row can = none (rule_of (homes_of t.homes.now) t.size t.to.now e acts items row) acts items row refl can

-- ---- numbers of one layer are one
pub num_same : (i j : ℤ) (p q : Span) → expr.Num i p ≡ expr.Num j q → i ≡ j
num_same i j p q e = let s : ◌≡◌ {A = Layer} (Expr-F.Num i p) (Expr-F.Num j q) = sym (out_num i p) ∙ ap out-Expr e ∙ out_num j q in cc

-- ---- layers of one expression are one
pub num_no_bin : (i : ℤ) (there : Span) (o : BinOp) (a c : Expr) (at : Span) → expr.Num i there ≡ expr.Bin o a c at → ⊥
num_no_bin i there o a c at e = let s : ◌≡◌ {A = Layer} (Expr-F.Num i there) (Expr-F.Bin o a c at) = sym (out_num i there) ∙ ap out-Expr e ∙ out_bin o a c at in absurd cc

bin_layers : (o p : BinOp) (a b c d : Expr) (r s : Span) → expr.Bin o a c r ≡ expr.Bin p b d s → ◌≡◌ {A = Layer} (Expr-F.Bin o a c r) (Expr-F.Bin p b d s)
bin_layers o p a b c d r s e = sym (out_bin o a c r) ∙ ap out-Expr e ∙ out_bin p b d s

bin_op : (o p : BinOp) (a b c d : Expr) (r s : Span) → expr.Bin o a c r ≡ expr.Bin p b d s → o ≡ p
bin_op o p a b c d r s e = let f = bin_layers o p a b c d r s e in cc

bin_first : (o p : BinOp) (a b c d : Expr) (r s : Span) → expr.Bin o a c r ≡ expr.Bin p b d s → a ≡ b
bin_first o p a b c d r s e = let f = bin_layers o p a b c d r s e in cc

bin_second : (o p : BinOp) (a b c d : Expr) (r s : Span) → expr.Bin o a c r ≡ expr.Bin p b d s → c ≡ d
bin_second o p a b c d r s e = let f = bin_layers o p a b c d r s e in cc

var_same : (v w : Var) → expr.Var v ≡ expr.Var w → v ≡ w
var_same v w e = let s : ◌≡◌ {A = Layer} (Expr-F.Var v) (Expr-F.Var w) = sym (out_var v) ∙ ap out-Expr e ∙ out_var w in cc

register_one : (n m : ℕ) (z : Size) → ◌≡◌ {A = Option Home} (Some (in_register n z)) (Some (in_register m z)) → n ≡ m
register_one n m z e = cc

-- ---- operands of one expression are one
pub silent_is : (l : code.Leaks) → leaks_of l ≡ silent → l ≡ Silent
silent_is Silent e = refl
silent_is Hidden e = absurd cc
silent_is Told e = absurd cc

module _ (t : Target) where
  abbrev home : Homes
  home = homes_of t.homes.now

  abbrev pub Found : Expr → Operand → Type 0
  Found e x = IsArg home t.size e x.arg (leaks_of x.leaks)

  abbrev pub NoArg : Expr → Type 0
  NoArg e = NeverArg home t.size e

  abbrev pub NoDest : Type 0
  NoDest = NeverDest home t.size t.to.now

  abbrev pub FoundDest : Operand → Type 0
  FoundDest b = IsDest home t.size t.to.now b.arg (leaks_of b.leaks)

  abbrev pub NoRegister : Type 0
  NoRegister = (n : ℕ) → IsDest home t.size t.to.now (arg.Var n) silent → ⊥

  same_arg : (e : Expr) (x : Operand) (a : Arg) (p : Leaks) → Found e x → IsArg home t.size e a p → x.arg ≡ a
  same_arg e x a p f g = (one_arg home t.size e x.arg a (leaks_of x.leaks) p f g).0

  same_dest : (b : Operand) (a : Arg) (p : Leaks) → FoundDest b → IsDest home t.size t.to.now a p → b.arg ≡ a
  same_dest b a p f g = (one_dest home t.size t.to.now b.arg a (leaks_of b.leaks) p f g).0

  no_imm : (x : Arg) → is_imm x ≡ true → NotImm x → ⊥
  no_imm (arg.Imm i) e h = h
  no_imm (arg.Var v) e h = absurd cc
  no_imm (arg.Mem m) e h = absurd cc
  no_imm (arg.Cell c) e h = absurd cc
  no_imm (arg.At r p) e h = absurd cc

  no_imms : (x y : Arg) → (is_imm x && is_imm y) ≡ true → NotBothImm x y → ⊥
  no_imms (arg.Imm i) (arg.Imm j) e h = h
  no_imms (arg.Imm i) (arg.Var v) e h = absurd cc
  no_imms (arg.Imm i) (arg.Mem m) e h = absurd cc
  no_imms (arg.Imm i) (arg.Cell c) e h = absurd cc
  no_imms (arg.Imm i) (arg.At r p) e h = absurd cc
  no_imms (arg.Var v) y e h = absurd cc
  no_imms (arg.Mem m) y e h = absurd cc
  no_imms (arg.Cell c) y e h = absurd cc
  no_imms (arg.At r p) y e h = absurd cc

  pub found_imm : (e : Expr) (x : Operand) (a : Arg) (p : Leaks) → Found e x → is_imm x.arg ≡ true → IsArg home t.size e a p → NotImm a → ⊥
  found_imm e x a p f i g h = no_imm x.arg i (subst NotImm (sym (same_arg e x a p f g)) h)

  -- where the first operand can't be brought to the destination
  unbrought : (swaps : Bool) (b x y : Arg) (f : Arg → Action) (acts : List Action) → brought swaps t.size b x y ≡ None → behind f (brought swaps t.size b x y) ≡ Some acts → ⊥
  unbrought swaps b x y f acts e h = let s : ◌≡◌ {A = Option (List Action)} None (Some acts) = ap (behind f) (sym e) ∙ h in absurd cc

  at_operands : (swaps : Bool) (b x y : Operand) (e g : Expr) (b2 x2 y2 : Arg) (p q r : Leaks) → Found e x → Found g y → FoundDest b → brought swaps t.size b.arg x.arg y.arg ≡ None → IsArg home t.size e x2 p → IsArg home t.size g y2 q → IsDest home t.size t.to.now b2 r
      → brought swaps t.size b2 x2 y2 ≡ None
  at_operands swaps b x y e g b2 x2 y2 p q r f h i none f2 h2 i2 = (λ j. brought swaps t.size (sym (same_dest b b2 r i i2) j) (sym (same_arg e x x2 p f f2) j) (sym (same_arg g y y2 q h h2) j)) ∙ none

  -- ---- `d = o`
  pub move_source : (e : Expr) → NoArg e → NeverBy Moves t e
  move_source e none = never_by t Moves e (out-Expr e) refl (by)
    where
      by : (acts : List Action) → RowAt home t.size t.to.now e Moves (out-Expr e) acts → All CanEncode acts → ⊥
      by acts (r_moves l x b p r f g) can = none x p f (mov_fields t.size b x (only_can (action.Mov t.size b x) can)).1

  pub move_dest : (e : Expr) → NoDest → NeverBy Moves t e
  move_dest e none = never_by t Moves e (out-Expr e) refl (by)
    where
      by : (acts : List Action) → RowAt home t.size t.to.now e Moves (out-Expr e) acts → All CanEncode acts → ⊥
      by acts (r_moves l x b p r f g) can = none b r g (mov_fields t.size b x (only_can (action.Mov t.size b x) can)).0

  -- ---- `d = a op o`
  module _ (o : BinOp) (a c : Expr) (at : Span) where
    abbrev e : Expr
    e = expr.Bin o a c at

    abbrev SumLaw : Type 0
    SumLaw = (acts : List Action) → RowAt home t.size t.to.now e Sums (Expr-F.Bin o a c at) acts → All CanEncode acts → ⊥

    sum_never : SumLaw → NeverBy Sums t e
    sum_never h = never_by t Sums e (Expr-F.Bin o a c at) (out_bin o a c at) h

    pub no_sum_op : (IsSumOp o → ⊥) → NeverBy Sums t e
    no_sum_op none = sum_never by
      where
        by : SumLaw
        by acts (r_sums o2 a2 c2 x y b p q r acts2 at2 s f g h ni k) can = none s

    pub sum_first : NoArg a → NeverBy Sums t e
    sum_first none = sum_never by
      where
        by : SumLaw
        by acts (r_sums o2 a2 c2 x y b p q r acts2 at2 s f g h ni k) can = none x p f (two_fields (commutes o) t.size b x y (λ u. action.Alu (alu_of o) t.size b u None) acts (λ u. alu_fields (alu_of o) t.size b u None) k can).1

    pub sum_second : NoArg c → NeverBy Sums t e
    sum_second none = sum_never by
      where
        by : SumLaw
        by acts (r_sums o2 a2 c2 x y b p q r acts2 at2 s f g h ni k) can = none y q g (two_fields (commutes o) t.size b x y (λ u. action.Alu (alu_of o) t.size b u None) acts (λ u. alu_fields (alu_of o) t.size b u None) k can).2

    pub sum_dest : NoDest → NeverBy Sums t e
    sum_dest none = sum_never by
      where
        by : SumLaw
        by acts (r_sums o2 a2 c2 x y b p q r acts2 at2 s f g h ni k) can = none b r h (two_fields (commutes o) t.size b x y (λ u. action.Alu (alu_of o) t.size b u None) acts (λ u. alu_fields (alu_of o) t.size b u None) k can).0

    pub sum_imms : (x y : Operand) → Found a x → Found c y → (is_imm x.arg && is_imm y.arg) ≡ true → NeverBy Sums t e
    sum_imms x0 y0 f0 g0 both = sum_never by
      where
        by : SumLaw
        by acts (r_sums o2 a2 c2 x y b p q r acts2 at2 s f g h ni k) can =
            no_imms x y ((λ j. is_imm (sym (same_arg a x0 x p f0 f) j) && is_imm (sym (same_arg c y0 y q g0 g) j)) ∙ both) ni

    pub sum_brought : (x y b : Operand) → Found a x → Found c y → FoundDest b → brought (commutes o) t.size b.arg x.arg y.arg ≡ None → NeverBy Sums t e
    sum_brought x0 y0 b0 f0 g0 h0 none = sum_never by
      where
        by : SumLaw
        by acts (r_sums o2 a2 c2 x y b p q r acts2 at2 s f g h ni k) can =
            unbrought (commutes o) b x y (λ u. action.Alu (alu_of o) t.size b u None) acts (at_operands (commutes o) b0 x0 y0 a c b x y p q r f0 g0 h0 none f g h) k

  -- ---- `d = a + o + c`
  module _ (o : BinOp) (a c : Expr) (inner : Span) (v : Var) (at : Span) where
    abbrev sum : Expr
    sum = expr.Bin o a c inner

    abbrev carried : Expr
    carried = expr.Bin o sum (expr.Var v) at

    abbrev CarryLaw : Type 0
    CarryLaw = (acts : List Action) → RowAt home t.size t.to.now carried Carries (Expr-F.Bin o sum (expr.Var v) at) acts → All CanEncode acts → ⊥

    carry_never : CarryLaw → NeverBy Carries t carried
    carry_never h = never_by t Carries carried (Expr-F.Bin o sum (expr.Var v) at) (out_bin o sum (expr.Var v) at) h

    inside_first : (a2 c2 : Expr) (inner2 : Span) → out-Expr sum ≡ Expr-F.Bin o a2 c2 inner2 → a2 ≡ a
    inside_first a2 c2 inner2 e = let s : ◌≡◌ {A = Layer} (Expr-F.Bin o a c inner) (Expr-F.Bin o a2 c2 inner2) = sym (out_bin o a c inner) ∙ e in cc

    inside_second : (a2 c2 : Expr) (inner2 : Span) → out-Expr sum ≡ Expr-F.Bin o a2 c2 inner2 → c2 ≡ c
    inside_second a2 c2 inner2 e = let s : ◌≡◌ {A = Layer} (Expr-F.Bin o a c inner) (Expr-F.Bin o a2 c2 inner2) = sym (out_bin o a c inner) ∙ e in cc

    as_first : (a2 c2 : Expr) (inner2 : Span) (x : Arg) (p : Leaks) → out-Expr sum ≡ Expr-F.Bin o a2 c2 inner2 → IsArg home t.size a2 x p → IsArg home t.size a x p
    as_first a2 c2 inner2 x p e f = subst (λ u. IsArg home t.size u x p) (inside_first a2 c2 inner2 e) f

    as_second : (a2 c2 : Expr) (inner2 : Span) (y : Arg) (q : Leaks) → out-Expr sum ≡ Expr-F.Bin o a2 c2 inner2 → IsArg home t.size c2 y q → IsArg home t.size c y q
    as_second a2 c2 inner2 y q e f = subst (λ u. IsArg home t.size u y q) (inside_second a2 c2 inner2 e) f

    flag_is : (f : Var) → out-Expr (expr.Var v) ≡ Expr-F.Var f → f ≡ v
    flag_is f e = let s : ◌≡◌ {A = Layer} (Expr-F.Var v) (Expr-F.Var f) = sym (out_var v) ∙ e in cc

    pub no_carry_op : (IsCarryOp o → ⊥) → NeverBy Carries t carried
    no_carry_op none = carry_never by
      where
        by : CarryLaw
        by acts (r_carries o2 i g a2 c2 x y b p q r acts2 f k inner2 at2 is_sum is_flag s u w h ni flag code) can = none s

    pub no_flag : ((n : ℕ) → home (key_of (ref_of v)) ≡ Some (in_flag n) → ⊥) → NeverBy Carries t carried
    no_flag none = carry_never by
      where
        by : CarryLaw
        by acts (r_carries o2 i g a2 c2 x y b p q r acts2 f k inner2 at2 is_sum is_flag s u w h ni flag code) can =
            none k.variable (subst (λ n. home (key_of (ref_of n)) ≡ Some (in_flag k.variable)) (flag_is f is_flag) flag)

    pub carry_first : NoArg a → NeverBy Carries t carried
    carry_first none = carry_never by
      where
        by : CarryLaw
        by acts (r_carries o2 i g a2 c2 x y b p q r acts2 f k inner2 at2 is_sum is_flag s u w h ni flag code) can =
            none x p (as_first a2 c2 inner2 x p is_sum u) (two_fields (commutes o) t.size b x y (λ n. action.Alu (carry_alu o) t.size b n (Some k)) acts (λ n. alu_fields (carry_alu o) t.size b n (Some k)) code can).1

    pub carry_second : NoArg c → NeverBy Carries t carried
    carry_second none = carry_never by
      where
        by : CarryLaw
        by acts (r_carries o2 i g a2 c2 x y b p q r acts2 f k inner2 at2 is_sum is_flag s u w h ni flag code) can =
            none y q (as_second a2 c2 inner2 y q is_sum w) (two_fields (commutes o) t.size b x y (λ n. action.Alu (carry_alu o) t.size b n (Some k)) acts (λ n. alu_fields (carry_alu o) t.size b n (Some k)) code can).2

    pub carry_dest : NoDest → NeverBy Carries t carried
    carry_dest none = carry_never by
      where
        by : CarryLaw
        by acts (r_carries o2 i g a2 c2 x y b p q r acts2 f k inner2 at2 is_sum is_flag s u w h ni flag code) can =
            none b r h (two_fields (commutes o) t.size b x y (λ n. action.Alu (carry_alu o) t.size b n (Some k)) acts (λ n. alu_fields (carry_alu o) t.size b n (Some k)) code can).0

    pub carry_imms : (x y : Operand) → Found a x → Found c y → (is_imm x.arg && is_imm y.arg) ≡ true → NeverBy Carries t carried
    carry_imms x0 y0 f0 g0 both = carry_never by
      where
        by : CarryLaw
        by acts (r_carries o2 i g a2 c2 x y b p q r acts2 f k inner2 at2 is_sum is_flag s u w h ni flag code) can =
            no_imms x y ((λ j. is_imm (sym (same_arg a x0 x p f0 (as_first a2 c2 inner2 x p is_sum u)) j) && is_imm (sym (same_arg c y0 y q g0 (as_second a2 c2 inner2 y q is_sum w)) j)) ∙ both) ni

    pub carry_brought : (x y b : Operand) → Found a x → Found c y → FoundDest b → brought (commutes o) t.size b.arg x.arg y.arg ≡ None → NeverBy Carries t carried
    carry_brought x0 y0 b0 f0 g0 h0 none = carry_never by
      where
        by : CarryLaw
        by acts (r_carries o2 i g a2 c2 x y b p q r acts2 f k inner2 at2 is_sum is_flag s u w h ni flag code) can =
            unbrought (commutes o) b x y (λ n. action.Alu (carry_alu o) t.size b n (Some k)) acts
            (at_operands (commutes o) b0 x0 y0 a c b x y p q r f0 g0 h0 none (as_first a2 c2 inner2 x p is_sum u) (as_second a2 c2 inner2 y q is_sum w) h) code

  -- where no sum stands in it, and where its last operand is no variable
  pub no_inner_sum : (o : BinOp) (a c : Expr) (at : Span) → ((a2 c2 : Expr) (inner : Span) → IsCarryOp o → a ≡ expr.Bin o a2 c2 inner → ⊥) → NeverBy Carries t (expr.Bin o a c at)
  no_inner_sum o a c at none = never_by t Carries (expr.Bin o a c at) (Expr-F.Bin o a c at) (out_bin o a c at) by
    where
      by : (acts : List Action) → RowAt home t.size t.to.now (expr.Bin o a c at) Carries (Expr-F.Bin o a c at) acts → All CanEncode acts → ⊥
      by acts (r_carries o2 i g a2 c2 x y b p q r acts2 f k inner2 at2 is_sum is_flag s u w h ni flag code) can = none a2 c2 inner2 s (sym (roll-out-Expr a) ∙ ap roll-Expr is_sum ∙ expr.rolls-Bin o a2 c2 inner2)

  pub no_last_flag : (o : BinOp) (a c : Expr) (at : Span) → ((f : Var) → c ≡ expr.Var f → ⊥) → NeverBy Carries t (expr.Bin o a c at)
  no_last_flag o a c at none = never_by t Carries (expr.Bin o a c at) (Expr-F.Bin o a c at) (out_bin o a c at) by
    where
      by : (acts : List Action) → RowAt home t.size t.to.now (expr.Bin o a c at) Carries (Expr-F.Bin o a c at) acts → All CanEncode acts → ⊥
      by acts (r_carries o2 i g a2 c2 x y b p q r acts2 f k inner2 at2 is_sum is_flag s u w h ni flag code) can = none f (sym (roll-out-Expr c) ∙ ap roll-Expr is_flag ∙ expr.rolls-Var f)

  -- ---- `- !` of one operand
  record IsSigned (o : One) (a : Expr) (acts : List Action) : Type 0 where
    pub x : Arg
    pub b : Arg
    pub p : Leaks
    pub r : Leaks
    pub is_arg : IsArg home t.size a x p
    pub is_dest : IsDest home t.size t.to.now b r
    pub no_number : NotImm x
    pub code : one_code o t.size b x ≡ Some acts

  minus_parts : (e a : Expr) (at : Span) (acts : List Action) → RowAt home t.size t.to.now e Signs (Expr-F.Neg a at) acts → IsSigned one.Neg a acts
  minus_parts e a at acts (r_minus a2 x b p r acts2 at2 f g ni k) = record { x = x; b = b; p = p; r = r; is_arg = f; is_dest = g; no_number = ni; code = k }

  not_parts : (e a : Expr) (at : Span) (acts : List Action) → RowAt home t.size t.to.now e Signs (Expr-F.Not a at) acts → IsSigned one.Not a acts
  not_parts e a at acts (r_not a2 x b p r acts2 at2 f g ni k) = record { x = x; b = b; p = p; r = r; is_arg = f; is_dest = g; no_number = ni; code = k }

  sign_never : (o : One) (e a : Expr) → IsSign o e a → ((acts : List Action) → IsSigned o a acts → All CanEncode acts → ⊥) → NeverBy Signs t e
  sign_never o e a (a_minus a2 at) none = never_by t Signs e (Expr-F.Neg a at) (out_neg a at) (λ acts row. none acts (minus_parts e a at acts row))
  sign_never o e a (a_not a2 at) none = never_by t Signs e (Expr-F.Not a at) (out_not a at) (λ acts row. none acts (not_parts e a at acts row))

  module _ (o : One) (e a : Expr) (is : IsSign o e a) where
    pub sign_operand : NoArg a → NeverBy Signs t e
    sign_operand none = sign_never o e a is (λ acts s can. none s.x s.p s.is_arg (one_operand t.size s.b s.x nothing (action.One o t.size s.b) acts (one_fields o t.size s.b) s.code can).1)

    pub sign_dest : NoDest → NeverBy Signs t e
    sign_dest none = sign_never o e a is (λ acts s can. none s.b s.r s.is_dest (one_operand t.size s.b s.x nothing (action.One o t.size s.b) acts (one_fields o t.size s.b) s.code can).0)

    pub sign_imm : (x : Operand) → Found a x → is_imm x.arg ≡ true → NeverBy Signs t e
    sign_imm x f i = sign_never o e a is (λ acts s can. found_imm a x s.x s.p f i s.is_arg s.no_number)

    pub sign_brought : (x y b : Operand) → y.arg ≡ nothing → Found a x → FoundDest b → brought false t.size b.arg x.arg y.arg ≡ None → NeverBy Signs t e
    sign_brought x y b same f g none = sign_never o e a is (λ acts s can.
        unbrought false s.b s.x nothing (λ u. action.One o t.size s.b) acts ((λ j. brought false t.size (sym (same_dest b s.b s.r g s.is_dest) j) (sym (same_arg a x s.x s.p f s.is_arg) j) (sym same j)) ∙ none) s.code)

  -- ---- products
  module _ (a c : Expr) (at : Span) where
    abbrev product : Expr
    product = expr.Bin op.Mul a c at

    abbrev TimesLaw : Type 0
    TimesLaw = (acts : List Action) → RowAt home t.size t.to.now product Times (Expr-F.Bin op.Mul a c at) acts → All CanEncode acts → ⊥

    abbrev TimesByLaw : Type 0
    TimesByLaw = (acts : List Action) → RowAt home t.size t.to.now product TimesBy (Expr-F.Bin op.Mul a c at) acts → All CanEncode acts → ⊥

    times_never : TimesLaw → NeverBy Times t product
    times_never h = never_by t Times product (Expr-F.Bin op.Mul a c at) (out_bin op.Mul a c at) h

    by_never : TimesByLaw → NeverBy TimesBy t product
    by_never h = never_by t TimesBy product (Expr-F.Bin op.Mul a c at) (out_bin op.Mul a c at) h

    product_fields : (m : ℕ) (x y : Arg) (acts : List Action) → times_code t.size m x y ≡ Some acts → All CanEncode acts → HasFields x × HasFields y
    product_fields m x y acts k can =
        let h = two_fields (not (is_imm x)) t.size (arg.Var m) x y (action.Imul t.size m) acts (λ u can2. (tt, imul_fields t.size m u can2)) k can in (h.1, h.2)

    pub times_narrow : (IsWide t.size → ⊥) → NeverBy Times t product
    times_narrow none = times_never by
      where
        by : TimesLaw
        by acts (r_times a2 c2 x y m p q acts2 at2 wide f g h ni k) can = none wide

    pub times_first : NoArg a → NeverBy Times t product
    times_first none = times_never by
      where
        by : TimesLaw
        by acts (r_times a2 c2 x y m p q acts2 at2 wide f g h ni k) can = none x p f (product_fields m x y acts k can).0

    pub times_second : NoArg c → NeverBy Times t product
    times_second none = times_never by
      where
        by : TimesLaw
        by acts (r_times a2 c2 x y m p q acts2 at2 wide f g h ni k) can = none y q g (product_fields m x y acts k can).1

    pub times_imm : (y : Operand) → Found c y → is_imm y.arg ≡ true → NeverBy Times t product
    times_imm y0 g0 i = times_never by
      where
        by : TimesLaw
        by acts (r_times a2 c2 x y m p q acts2 at2 wide f g h ni k) can = found_imm c y0 y q g0 i g ni

    pub times_register : NoRegister → NeverBy Times t product
    times_register none = times_never by
      where
        by : TimesLaw
        by acts (r_times a2 c2 x y m p q acts2 at2 wide f g h ni k) can = none m h

    pub times_brought : (x y : Operand) (n : ℕ) → Found a x → Found c y → IsDest home t.size t.to.now (arg.Var n) silent → brought (not (is_imm x.arg)) t.size (arg.Var n) x.arg y.arg ≡ None → NeverBy Times t product
    times_brought x0 y0 n f0 g0 h0 none = times_never by
      where
        by : TimesLaw
        by acts (r_times a2 c2 x y m p q acts2 at2 wide f g h ni k) can =
            let d = (one_dest home t.size t.to.now (arg.Var n) (arg.Var m) silent silent h0 h).0 in
            let u = same_arg a x0 x p f0 f in
            let w = same_arg c y0 y q g0 g in
            unbrought (not (is_imm x)) (arg.Var m) x y (action.Imul t.size m) acts ((λ j. brought (not (is_imm (sym u j))) t.size (sym d j) (sym u j) (sym w j)) ∙ none) k

    pub by_narrow : (IsWide t.size → ⊥) → NeverBy TimesBy t product
    by_narrow none = by_never by
      where
        by : TimesByLaw
        by acts (r_times_by a2 c2 x i m p at2 wide f g h ni) can = none wide

    pub by_first : NoArg a → NeverBy TimesBy t product
    by_first none = by_never by
      where
        by : TimesByLaw
        by acts (r_times_by a2 c2 x i m p at2 wide f g h ni) can = none x p f (imul_by_fields t.size m x i (only_can (action.ImulBy t.size m x i) can)).0

    pub by_imm : (x : Operand) → Found a x → is_imm x.arg ≡ true → NeverBy TimesBy t product
    by_imm x0 f0 i0 = by_never by
      where
        by : TimesByLaw
        by acts (r_times_by a2 c2 x i m p at2 wide f g h ni) can = found_imm a x0 x p f0 i0 f ni

    pub by_second : NoArg c → NeverBy TimesBy t product
    by_second none = by_never by
      where
        by : TimesByLaw
        by acts (r_times_by a2 c2 x i m p at2 wide f g h ni) can = none (arg.Imm i) silent g tt

    pub by_no_number : (y : Operand) → Found c y → ((i : ℤ) → y.arg ≡ arg.Imm i → y.leaks ≡ Silent → ⊥) → NeverBy TimesBy t product
    by_no_number y0 g0 none = by_never by
      where
        by : TimesByLaw
        by acts (r_times_by a2 c2 x i m p at2 wide f g h ni) can =
            let s = one_arg home t.size c y0.arg (arg.Imm i) (leaks_of y0.leaks) silent g0 g in none i s.0 (silent_is y0.leaks s.1)

    pub by_long : (y : Operand) (n : ℤ) → Found c y → y.arg ≡ arg.Imm n → fits_bytes 4 n ≡ false → NeverBy TimesBy t product
    by_long y0 n g0 e0 long = by_never by
      where
        same_imm : (i j : ℤ) → ◌≡◌ {A = Arg} (arg.Imm i) (arg.Imm j) → i ≡ j
        same_imm i j e = cc

        clash : (b : Bool) → b ≡ true → b ≡ false → ⊥
        clash b e f = absurd cc

        by : TimesByLaw
        by acts (r_times_by a2 c2 x i m p at2 wide f g h ni) can =
            let s = same_imm n i (sym e0 ∙ same_arg c y0 (arg.Imm i) silent g0 g) in
            clash (fits_bytes 4 i) (imul_by_fields t.size m x i (only_can (action.ImulBy t.size m x i) can)).1 (ap (fits_bytes 4) (sym s) ∙ long)

    pub by_register : NoRegister → NeverBy TimesBy t product
    by_register none = by_never by
      where
        by : TimesByLaw
        by acts (r_times_by a2 c2 x i m p at2 wide f g h ni) can = none m h

  -- ---- shifts by a number
  module _ (o : BinOp) (a g : Expr) (at : Span) where
    abbrev shift : Expr
    shift = expr.Bin o a g at

    abbrev ShiftLaw : Type 0
    ShiftLaw = (acts : List Action) → RowAt home t.size t.to.now shift Shifts (Expr-F.Bin o a g at) acts → All CanEncode acts → ⊥

    abbrev ShiftByLaw : Type 0
    ShiftByLaw = (acts : List Action) → RowAt home t.size t.to.now shift ShiftsBy (Expr-F.Bin o a g at) acts → All CanEncode acts → ⊥

    shift_never : ShiftLaw → NeverBy Shifts t shift
    shift_never h = never_by t Shifts shift (Expr-F.Bin o a g at) (out_bin o a g at) h

    shift_by_never : ShiftByLaw → NeverBy ShiftsBy t shift
    shift_by_never h = never_by t ShiftsBy shift (Expr-F.Bin o a g at) (out_bin o a g at) h

    pub no_shift_op : (IsShiftOp o → ⊥) → NeverBy Shifts t shift
    no_shift_op none = shift_never by
      where
        by : ShiftLaw
        by acts (r_shifts o2 a2 g2 x b p r acts2 n there at2 is s less f h ni k) can = none s

    pub no_count : ((n : ℕ) (there : Span) → g ≡ expr.Num (pos n) there → n < bits_of t.size → ⊥) → NeverBy Shifts t shift
    no_count none = shift_never by
      where
        by : ShiftLaw
        by acts (r_shifts o2 a2 g2 x b p r acts2 n there at2 is s less f h ni k) can = none n there (sym (roll-out-Expr g) ∙ ap roll-Expr is ∙ expr.rolls-Num (pos n) there) less

    pub shift_operand : NoArg a → NeverBy Shifts t shift
    shift_operand none = shift_never by
      where
        by : ShiftLaw
        by acts (r_shifts o2 a2 g2 x b p r acts2 n there at2 is s less f h ni k) can =
            none x p f (one_operand t.size b x nothing (action.Shift (shift_of o) t.size b n) acts (shift_fields (shift_of o) t.size b n) k can).1

    pub shift_imm : (x : Operand) → Found a x → is_imm x.arg ≡ true → NeverBy Shifts t shift
    shift_imm x0 f0 i = shift_never by
      where
        by : ShiftLaw
        by acts (r_shifts o2 a2 g2 x b p r acts2 n there at2 is s less f h ni k) can = found_imm a x0 x p f0 i f ni

    pub shift_dest : NoDest → NeverBy Shifts t shift
    shift_dest none = shift_never by
      where
        by : ShiftLaw
        by acts (r_shifts o2 a2 g2 x b p r acts2 n there at2 is s less f h ni k) can =
            none b r h (one_operand t.size b x nothing (action.Shift (shift_of o) t.size b n) acts (shift_fields (shift_of o) t.size b n) k can).0

    pub shift_brought : (x y b : Operand) → y.arg ≡ nothing → Found a x → FoundDest b → brought false t.size b.arg x.arg y.arg ≡ None → NeverBy Shifts t shift
    shift_brought x0 y0 b0 same f0 h0 none = shift_never by
      where
        by : ShiftLaw
        by acts (r_shifts o2 a2 g2 x b p r acts2 n there at2 is s less f h ni k) can =
            unbrought false b x nothing (λ u. action.Shift (shift_of o) t.size b n) acts ((λ j. brought false t.size (sym (same_dest b0 b r h0 h) j) (sym (same_arg a x0 x p f0 f) j) (sym same j)) ∙ none) k

    -- ---- shifts by a variable
    pub no_shift_by_op : (IsShiftOp o → ⊥) → NeverBy ShiftsBy t shift
    no_shift_by_op none = shift_by_never by
      where
        by : ShiftByLaw
        by acts (r_shifts_by o2 a2 g2 u m x b p r acts2 v k there inner at2 is isv ism s register f h code) can = none s

    abbrev pub Masked : Var → Type 0
    Masked v = (there : Span) × (inner : Span) × (g ≡ expr.Bin op.And (expr.Var v) (expr.Num (pos (mask_of t.size)) there) inner)

    masked : (u m : Expr) (v : Var) (there inner : Span) → out-Expr g ≡ Expr-F.Bin op.And u m inner → out-Expr u ≡ Expr-F.Var v → out-Expr m ≡ Expr-F.Num (pos (mask_of t.size)) there → Masked v
    masked u m v there inner e f h = (
      there,
      inner,
      sym (roll-out-Expr g) ∙ ap roll-Expr e ∙ expr.rolls-Bin op.And u m inner
          ∙ (λ j. expr.Bin op.And ((sym (roll-out-Expr u) ∙ ap roll-Expr f ∙ expr.rolls-Var v) j) ((sym (roll-out-Expr m) ∙ ap roll-Expr h ∙ expr.rolls-Num (pos (mask_of t.size)) there) j) inner),
    )

    pub no_mask : ((v : Var) → Masked v → ⊥) → NeverBy ShiftsBy t shift
    no_mask none = shift_by_never by
      where
        by : ShiftByLaw
        by acts (r_shifts_by o2 a2 g2 u m x b p r acts2 v k there inner at2 is isv ism s register f h code) can = none v (masked u m v there inner is isv ism)

    pub no_byte : ((v : Var) (n : ℕ) → Masked v → home (key_of (ref_of v)) ≡ Some (in_register n S8) → ⊥) → NeverBy ShiftsBy t shift
    no_byte none = shift_by_never by
      where
        by : ShiftByLaw
        by acts (r_shifts_by o2 a2 g2 u m x b p r acts2 v k there inner at2 is isv ism s register f h code) can = none v k.variable (masked u m v there inner is isv ism) register

    pub shift_by_operand : NoArg a → NeverBy ShiftsBy t shift
    shift_by_operand none = shift_by_never by
      where
        by : ShiftByLaw
        by acts (r_shifts_by o2 a2 g2 u m x b p r acts2 v k there inner at2 is isv ism s register f h code) can =
            none x p f (one_operand t.size b x (arg.Var k.variable) (action.ShiftBy (shift_of o) t.size b k) acts (shift_by_fields (shift_of o) t.size b k) code can).1

    pub shift_by_dest : NoDest → NeverBy ShiftsBy t shift
    shift_by_dest none = shift_by_never by
      where
        by : ShiftByLaw
        by acts (r_shifts_by o2 a2 g2 u m x b p r acts2 v k there inner at2 is isv ism s register f h code) can =
            none b r h (one_operand t.size b x (arg.Var k.variable) (action.ShiftBy (shift_of o) t.size b k) acts (shift_by_fields (shift_of o) t.size b k) code can).0

    pub shift_by_brought : (x y b : Operand) → Found a x → FoundDest b → ((v : Var) (n : ℕ) → Masked v → home (key_of (ref_of v)) ≡ Some (in_register n S8) → y.arg ≡ arg.Var n) → brought false t.size b.arg x.arg y.arg ≡ None → NeverBy ShiftsBy t shift
    shift_by_brought x0 y0 b0 f0 h0 same none = shift_by_never by
      where
        by : ShiftByLaw
        by acts (r_shifts_by o2 a2 g2 u m x b p r acts2 v k there inner at2 is isv ism s register f h code) can =
            unbrought false b x (arg.Var k.variable) (λ n. action.ShiftBy (shift_of o) t.size b k) acts
            ((λ j. brought false t.size (sym (same_dest b0 b r h0 h) j) (sym (same_arg a x0 x p f0 f) j) (sym (same v k.variable (masked u m v there inner is isv ism) register) j)) ∙ none) code

  -- what is no number, and no variable with its mask
  pub second_number : (o : BinOp) (a : Expr) (i : ℤ) (there at : Span) → NeverBy ShiftsBy t (expr.Bin o a (expr.Num i there) at)
  second_number o a i there at = no_mask o a (expr.Num i there) at (λ v h. num_no_bin i there op.And (expr.Var v) (expr.Num (pos (mask_of t.size)) h.0) h.1 h.2)

  pub second_bin : (o b : BinOp) (a u m : Expr) (inner at : Span) → NeverBy Shifts t (expr.Bin o a (expr.Bin b u m inner) at)
  second_bin o b a u m inner at = no_count o a (expr.Bin b u m inner) at (λ n there e less. num_no_bin (pos n) there b u m inner (sym e))

  pub second_other : (o : BinOp) (a g : Expr) (at : Span) → ((i : ℤ) (there : Span) → g ≡ expr.Num i there → ⊥) → ((b : BinOp) (u m : Expr) (inner : Span) → g ≡ expr.Bin b u m inner → ⊥) → NeverBy Shifts t (expr.Bin o a g at) × NeverBy ShiftsBy t (expr.Bin o a g at)
  second_other o a g at e f = (no_count o a g at (λ n there is less. e (pos n) there is), no_mask o a g at (λ v h. f op.And (expr.Var v) (expr.Num (pos (mask_of t.size)) h.0) h.1 h.2))

  module _ (o : BinOp) (a u m : Expr) (inner at : Span) where
    abbrev counted : Expr
    counted = expr.Bin op.And u m inner

    same_variable : (v : Var) → Masked o a counted at v → u ≡ expr.Var v
    same_variable v h = bin_first op.And op.And u (expr.Var v) m (expr.Num (pos (mask_of t.size)) h.0) inner h.1 h.2

    same_mask : (v : Var) (h : Masked o a counted at v) → m ≡ expr.Num (pos (mask_of t.size)) h.0
    same_mask v h = bin_second op.And op.And u (expr.Var v) m (expr.Num (pos (mask_of t.size)) h.0) inner h.1 h.2

    pub mask_no_variable : ((v : Var) → u ≡ expr.Var v → ⊥) → NeverBy ShiftsBy t (expr.Bin o a counted at)
    mask_no_variable none = no_mask o a counted at (λ v h. none v (same_variable v h))

    pub mask_no_number : ((i : ℤ) (there : Span) → m ≡ expr.Num i there → ⊥) → NeverBy ShiftsBy t (expr.Bin o a counted at)
    mask_no_number none = no_mask o a counted at (λ v h. none (pos (mask_of t.size)) h.0 (same_mask v h))

    pub other_mask : (i : ℤ) (there : Span) → m ≡ expr.Num i there → (i ≡ pos (mask_of t.size) → ⊥) → NeverBy ShiftsBy t (expr.Bin o a counted at)
    other_mask i there is none = no_mask o a counted at (λ v h. none (num_same i (pos (mask_of t.size)) there h.0 (sym is ∙ same_mask v h)))

    pub other_operator : (b : BinOp) → (b ≡ op.And → ⊥) → NeverBy ShiftsBy t (expr.Bin o a (expr.Bin b u m inner) at)
    other_operator b none = no_mask o a (expr.Bin b u m inner) at (λ v h. none (bin_op b op.And u (expr.Var v) m (expr.Num (pos (mask_of t.size)) h.0) inner h.1 h.2))

  module _ (o : BinOp) (a : Expr) (w : Var) (there inner at : Span) where
    abbrev variable : Expr
    variable = expr.Bin op.And (expr.Var w) (expr.Num (pos (mask_of t.size)) there) inner

    counts : (v : Var) → Masked o a variable at v → v ≡ w
    counts v h = var_same v w (sym (same_variable o a (expr.Var w) (expr.Num (pos (mask_of t.size)) there) inner at v h))

    pub variable_home : ((n : ℕ) → home (key_of (ref_of w)) ≡ Some (in_register n S8) → ⊥) → NeverBy ShiftsBy t (expr.Bin o a variable at)
    variable_home none = no_byte o a variable at (λ v n h e. none n (subst (λ k. home (key_of (ref_of k)) ≡ Some (in_register n S8)) (counts v h) e))

    pub variable_brought : (x b : Operand) (n : ℕ) → Found a x → FoundDest b → home (key_of (ref_of w)) ≡ Some (in_register n S8) → brought false t.size b.arg x.arg (arg.Var n) ≡ None → NeverBy ShiftsBy t (expr.Bin o a variable at)
    variable_brought x b n f h is none = shift_by_brought o a variable at x (record { arg = arg.Var n; leaks = Silent }) b f h (λ v k masked e. ap arg.Var (register_one n k S8 (sym is ∙ subst (λ u. home (key_of (ref_of u)) ≡ Some (in_register k S8)) (counts v masked) e))) none

  -- sums whose first operand is one, and sums behind which no flag stands
  pub first_bin : (o b : BinOp) (u m c : Expr) (inner at : Span) → NeverBy Sums t (expr.Bin o (expr.Bin b u m inner) c at)
  first_bin o b u m c inner at = sum_first o (expr.Bin b u m inner) c at (never_bin home t.size b u m inner)

  pub other_inner : (o b : BinOp) (u m c : Expr) (inner at : Span) → (o ≡ b → IsCarryOp o → ⊥) → NeverBy Carries t (expr.Bin o (expr.Bin b u m inner) c at)
  other_inner o b u m c inner at none = no_inner_sum o (expr.Bin b u m inner) c at (λ a2 c2 s carry e. none (sym (bin_op b o u a2 m c2 inner s e)) carry)

  pub first_no_bin : (o : BinOp) (a c : Expr) (at : Span) → ((b : BinOp) (u m : Expr) (inner : Span) → a ≡ expr.Bin b u m inner → ⊥) → NeverBy Carries t (expr.Bin o a c at)
  first_no_bin o a c at none = no_inner_sum o a c at (λ a2 c2 s carry e. none o a2 c2 s e)

  -- ---- extensions and lowest bits
  module _ (sign : Bool) (a : Expr) (at : Span) where
    abbrev cast : Expr
    cast = expr.Cast t.size sign a at

    abbrev ExtendLaw : Type 0
    ExtendLaw = (z : Size) (acts : List Action) → RowAt home t.size t.to.now cast Extends (Expr-F.Cast z sign a at) acts → All CanEncode acts → ⊥

    extend_never : ExtendLaw → NeverBy Extends t cast
    extend_never h = never_by t Extends cast (Expr-F.Cast t.size sign a at) (out_cast t.size sign a at) (h t.size)

    own_is : (y z : Size) → own_size a ≡ Some y → own_size a ≡ Some z → y ≡ z
    own_is y z e f = let s : ◌≡◌ {A = Option Size} (Some y) (Some z) = sym e ∙ f in cc

    pub extend_no_size : own_size a ≡ None → NeverBy Extends t cast
    extend_no_size none = extend_never by
      where
        by : ExtendLaw
        by z acts (r_extends a2 y from m p sign2 at2 size less f ni g) can = let s : ◌≡◌ {A = Option Size} None (Some from) = sym none ∙ size in absurd cc

    pub extend_large : (y : Size) → own_size a ≡ Some y → bits_of t.size ≤ bits_of y → NeverBy Extends t cast
    extend_large y0 e0 large = extend_never by
      where
        too : (u v w : ℕ) → u ≡ v → w ≤ u → v < w → ⊥
        too u v w e f g = omega (arith, e, f, g)

        by : ExtendLaw
        by z acts (r_extends a2 y from m p sign2 at2 size less f ni g) can = too (bits_of y0) (bits_of from) (bits_of t.size) (ap bits_of (own_is y0 from e0 size)) large less

    pub extend_operand : (y : Size) → own_size a ≡ Some y → NeverArg home y a → NeverBy Extends t cast
    extend_operand y0 e0 none = extend_never by
      where
        by : ExtendLaw
        by z acts (r_extends a2 y from m p sign2 at2 size less f ni g) can =
            none y p (subst (λ z. IsArg home z a y p) (sym (own_is y0 from e0 size)) f) (extend_fields sign t.size from m y (only_can (action.Extend sign t.size from m y) can))

    pub extend_imm : (y : Size) (x : Operand) → own_size a ≡ Some y → IsArg home y a x.arg (leaks_of x.leaks) → is_imm x.arg ≡ true → NeverBy Extends t cast
    extend_imm y0 x0 e0 f0 i = extend_never by
      where
        by : ExtendLaw
        by z acts (r_extends a2 y from m p sign2 at2 size less f ni g) can =
            let h = subst (λ z. IsArg home z a y p) (sym (own_is y0 from e0 size)) f in
            no_imm x0.arg i (subst NotImm (sym (one_arg home y0 a x0.arg y (leaks_of x0.leaks) p f0 h).0) ni)

    pub extend_register : NoRegister → NeverBy Extends t cast
    extend_register none = extend_never by
      where
        by : ExtendLaw
        by z acts (r_extends a2 y from m p sign2 at2 size less f ni g) can = none m g

    -- ---- the lowest bits
    abbrev LowestLaw : Type 0
    LowestLaw = (acts : List Action) → RowAt home t.size t.to.now cast Lowest (Expr-F.Cast t.size sign a at) acts → All CanEncode acts → ⊥

    lowest_never : LowestLaw → NeverBy Lowest t cast
    lowest_never h = never_by t Lowest cast (Expr-F.Cast t.size sign a at) (out_cast t.size sign a at) h

    pub lowest_signed : sign ≡ true → NeverBy Lowest t cast
    lowest_signed is = lowest_never (by t.size sign is)
      where
        by : (z : Size) (s : Bool) → s ≡ true → (acts : List Action) → RowAt home t.size t.to.now cast Lowest (Expr-F.Cast z s a at) acts → All CanEncode acts → ⊥
        by z s e acts (r_lowest a2 from m n at2 size more f g) can = absurd cc

    pub lowest_no_size : own_size a ≡ None → NeverBy Lowest t cast
    lowest_no_size none = lowest_never (by t.size sign)
      where
        by : (z : Size) (s : Bool) (acts : List Action) → RowAt home t.size t.to.now cast Lowest (Expr-F.Cast z s a at) acts → All CanEncode acts → ⊥
        by z s acts (r_lowest a2 from m n at2 size more f g) can = let e : ◌≡◌ {A = Option Size} None (Some from) = sym none ∙ size in absurd cc

    pub lowest_small : (y : Size) → own_size a ≡ Some y → bits_of y < bits_of t.size → NeverBy Lowest t cast
    lowest_small y0 e0 small = lowest_never (by t.size sign)
      where
        too : (u v w : ℕ) → u ≡ v → u < w → w ≤ v → ⊥
        too u v w e f g = omega (arith, e, f, g)

        by : (z : Size) (s : Bool) (acts : List Action) → RowAt home t.size t.to.now cast Lowest (Expr-F.Cast z s a at) acts → All CanEncode acts → ⊥
        by z s acts (r_lowest a2 from m n at2 size more f g) can = too (bits_of y0) (bits_of from) (bits_of t.size) (ap bits_of (own_is y0 from e0 size)) small more

    pub lowest_operand : (y : Size) → own_size a ≡ Some y → NeverArg home y a → NeverBy Lowest t cast
    lowest_operand y0 e0 none = lowest_never (by t.size sign)
      where
        by : (z : Size) (s : Bool) (acts : List Action) → RowAt home t.size t.to.now cast Lowest (Expr-F.Cast z s a at) acts → All CanEncode acts → ⊥
        by z s acts (r_lowest a2 from m n at2 size more f g) can = none (arg.Var n) silent (subst (λ z. IsArg home z a (arg.Var n) silent) (sym (own_is y0 from e0 size)) f) tt

    pub lowest_no_variable : (y : Size) (x : Operand) → own_size a ≡ Some y → IsArg home y a x.arg (leaks_of x.leaks) → ((n : ℕ) → x.arg ≡ arg.Var n → x.leaks ≡ Silent → ⊥) → NeverBy Lowest t cast
    lowest_no_variable y0 x0 e0 f0 none = lowest_never (by t.size sign)
      where
        by : (z : Size) (s : Bool) (acts : List Action) → RowAt home t.size t.to.now cast Lowest (Expr-F.Cast z s a at) acts → All CanEncode acts → ⊥
        by z s acts (r_lowest a2 from m n at2 size more f g) can =
            let h = subst (λ z. IsArg home z a (arg.Var n) silent) (sym (own_is y0 from e0 size)) f in
            let s = one_arg home y0 a x0.arg (arg.Var n) (leaks_of x0.leaks) silent f0 h in
            none n s.0 (silent_is x0.leaks s.1)

    pub lowest_register : NoRegister → NeverBy Lowest t cast
    lowest_register none = lowest_never (by t.size sign)
      where
        by : (z : Size) (s : Bool) (acts : List Action) → RowAt home t.size t.to.now cast Lowest (Expr-F.Cast z s a at) acts → All CanEncode acts → ⊥
        by z s acts (r_lowest a2 from m n at2 size more f g) can = none m g

  -- ---- casts to another size
  pub other_cast : (z : Size) (sign : Bool) (a : Expr) (at : Span) → (z ≡ t.size → ⊥) → NeverBy Extends t (expr.Cast z sign a at) × NeverBy Lowest t (expr.Cast z sign a at)
  other_cast z sign a at none = (never_by t Extends (expr.Cast z sign a at) (Expr-F.Cast z sign a at) (out_cast z sign a at) (by z sign none), never_by t Lowest (expr.Cast z sign a at) (Expr-F.Cast z sign a at) (out_cast z sign a at) (low z sign none))
    where
      by : (y : Size) (s : Bool) → (y ≡ t.size → ⊥) → (acts : List Action) → RowAt home t.size t.to.now (expr.Cast z sign a at) Extends (Expr-F.Cast y s a at) acts → All CanEncode acts → ⊥
      by y s other acts (r_extends a2 x from m p sign2 at2 size less f ni g) can = other refl

      low : (y : Size) (s : Bool) → (y ≡ t.size → ⊥) → (acts : List Action) → RowAt home t.size t.to.now (expr.Cast z sign a at) Lowest (Expr-F.Cast y s a at) acts → All CanEncode acts → ⊥
      low y s other acts (r_lowest a2 from m n at2 size more f g) can = other refl
