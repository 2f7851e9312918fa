-- Each row, of the operands that were found.
use Rattle.std.proofs.Common.{◌≡◌, ℕ, ◌<◌, ◌≤◌, Bool, true, false, [], ◌∷◌, ◌++◌, Option, Some, None, refl, sym, ap, ◌∙◌, subst, ℤ, pos}
use Rattle.std.specs.Prelude.{not, ◌&&◌}
use Rattle.jz_words.specs.declared.size.Size.{Size}
use Rattle.jz_words.specs.declared.size.Size.TheVariants.{S8, S16, S32, S64}
use Rattle.jz_words.specs.Sizes.{bits_of}
use Rattle.x64_insn.specs.declared.types.Alu.{Alu}
use Rattle.x64_insn.specs.declared.types.One.{One}
use Rattle.x64_insn.specs.declared.types.Shift.{Shift}
use Rattle.jz_tree.specs.Span.{Span}
use Rattle.jz_tree.specs.declared.expr.BinOp.{BinOp}
use Rattle.jz_tree.specs.declared.expr.BinOp.TheVariants as op
use Rattle.jz_tree.specs.declared.expr.Expr.{Expr}
use Rattle.jz_tree.specs.declared.expr.Expr.TheVariants as expr
use Rattle.jz_tree.specs.declared.expr.Var.{Var}
use Rattle.jz_tree.specs.declared.stmt.Lval.{Lval}
use Rattle.jz_type_names.specs.Kinds.{same_size}
use Rattle.jz_meaning.specs.Values.{key_of, ref_of, own_size}
use Rattle.jz_operations.specs.declared.operation.Pinned.{Pinned}
use Rattle.jz_operations.specs.declared.operation.Arg.{Arg}
use Rattle.jz_operations.specs.declared.operation.Arg.TheVariants as arg
use Rattle.jz_operations.specs.declared.operation.Action.{Action}
use Rattle.jz_operations.specs.declared.operation.Action.TheVariants as action
use Rattle.jz_change.specs.declared.change.Numbers.{Numbers}
use Rattle.jz_change.specs.declared.change.Numbers.TheVariants.{These}
use Rattle.jz_homes.specs.Homes.{Homes, in_register, in_flag}
use Rattle.jz_homes.specs.Operands.{Leaks, silent, count_of, IsArg, IsDest}
use Rattle.jz_row_operations.specs.Rows.{IsWide, NotImm, NotBothImm, IsSumOp, alu_of, commutes, IsCarryOp, carry_alu, IsSign, IsShiftOp, shift_of, mask_of}
use Rattle.jz_row_operations.specs.Table.{is_imm, behind, nothing}
use Rattle.jz_row_operations.specs.Lowering.{numbers_from, HasRow, moves, sums, carries, signs, times, times_by, shifts, shifts_by, extends, lowest}
use Rattle.jz_operands.specs.declared.operands.Leaks.TheVariants.{Silent}
use Rattle.jz_operands.specs.declared.operands.Operand.{Operand}
use Rattle.jz_operands.specs.declared.homes.Home.TheVariants.{Word}
use Rattle.jz_operands.specs.TableHomes.{scalar_home, leaks_of}
use Rattle.jz_operands.proofs.OperandLemmas.{size_one}
use Rattle.jz_rows.specs.declared.row.Row.{Row}
use Rattle.jz_rows.specs.declared.row.Shown.{Shown}
use Rattle.jz_rows.specs.declared.bringing.Brought.{Brought}
use Rattle.jz_rows.specs.Rows.{nth_of, item_of, acts_of, items_of}
use Rattle.jz_rows.specs.Found.{IsBrought}
use Rattle.jz_rows.proofs.BringLemmas.{item_both, item_one}

-- ---- operands
pub not_imm : (x : Arg) → is_imm x ≡ false → NotImm x
not_imm (arg.Var v) e = tt
not_imm (arg.Imm i) e = absurd cc
not_imm (arg.Mem m) e = tt
not_imm (arg.Cell c) e = tt
not_imm (arg.At r p) e = tt

pub not_both_imm : (x y : Arg) → (is_imm x && is_imm y) ≡ false → NotBothImm x y
not_both_imm (arg.Imm i) (arg.Imm j) e = absurd cc
not_both_imm (arg.Imm i) (arg.Var w) e = tt
not_both_imm (arg.Imm i) (arg.Mem m) e = tt
not_both_imm (arg.Imm i) (arg.Cell k) e = tt
not_both_imm (arg.Imm i) (arg.At r p) e = tt
not_both_imm (arg.Var v) y e = tt
not_both_imm (arg.Mem m) y e = tt
not_both_imm (arg.Cell c) y e = tt
not_both_imm (arg.At r p) y e = tt

pub register_is : {home : Homes} {z : Size} {d : Lval} (x : Operand) (n : ℕ) → IsDest home z d x.arg (leaks_of x.leaks) → x.arg ≡ arg.Var n → x.leaks ≡ Silent → IsDest home z d (arg.Var n) silent
register_is {home} {z} {d} x n h e f = subst (λ b. IsDest home z d b silent) e (subst (λ l. IsDest home z d x.arg (leaks_of l)) f h)

pub variable_is : {home : Homes} {z : Size} {e : Expr} (x : Operand) (n : ℕ) → IsArg home z e x.arg (leaks_of x.leaks) → x.arg ≡ arg.Var n → x.leaks ≡ Silent → IsArg home z e (arg.Var n) silent
variable_is {home} {z} {e} x n h f g = subst (λ b. IsArg home z e b silent) f (subst (λ l. IsArg home z e x.arg (leaks_of l)) g h)

pub number_is : {home : Homes} {z : Size} {e : Expr} (x : Operand) (i : ℤ) → IsArg home z e x.arg (leaks_of x.leaks) → x.arg ≡ arg.Imm i → x.leaks ≡ Silent → IsArg home z e (arg.Imm i) silent
number_is {home} {z} {e} x i h f g = subst (λ b. IsArg home z e b silent) f (subst (λ l. IsArg home z e x.arg (leaks_of l)) g h)

pub word_at : (home : Homes) (x : Var) (n : ℕ) (y z : Size) → home (key_of (ref_of x)) ≡ scalar_home (Some (Word n y)) → same_size y z ≡ true → home (key_of (ref_of x)) ≡ Some (in_register n z)
word_at home x n y z h e = h ∙ ap (λ s. Some (in_register n s)) (size_one y z e)

size_same : (z : Size) → same_size z z ≡ true
size_same S8 = refl
size_same S16 = refl
size_same S32 = refl
size_same S64 = refl

pub size_differs : (y z : Size) → same_size y z ≡ false → y ≡ z → ⊥
size_differs y z e f = let s : same_size y z ≡ true = subst (λ x. same_size y x ≡ true) f (size_same y) in absurd cc

-- an action behind what was brought
abbrev pub row_behind : Brought → Action → Row
row_behind b a = record { before = b.before; last = record { action = a; shown = b.shown } }

module _ (home : Homes) (z : Size) (d : Lval) where
  abbrev pub RowOf : Expr → Row → Type 0
  RowOf e r = HasRow home z d e (acts_of r) (items_of r)

  -- one action with such numbers
  alone : {e : Expr} (a : Action) (s : Shown) (i : Numbers) → item_of s ≡ i → HasRow home z d e (a ∷ []) (i ∷ []) → RowOf e (record { before = None; last = record { action = a; shown = s } })
  alone {e} a s i f h = subst (λ j. HasRow home z d e (a ∷ []) (j ∷ [])) (sym f) h

  pub move_is : {e : Expr} {x b : Arg} {p r : Leaks} (s t : Option ℕ) → IsArg home z e x p → IsDest home z d b r → nth_of s ≡ numbers_from r (count_of p) → nth_of t ≡ numbers_from p 0
      → RowOf e (record { before = None; last = record { action = action.Mov z b x; shown = record { first = s; second = t } } })
  move_is {x = x} {b = b} {p = p} {r = r} s t ia id f g =
      alone (action.Mov z b x) (record { first = s; second = t }) (These (numbers_from r (count_of p) ++ numbers_from p 0))
      (item_both s t (numbers_from r (count_of p)) (numbers_from p 0) f g) (moves ia id)

  pub sum_is : {o : BinOp} {a c : Expr} {x y : Operand} (b : Operand) (at : Span) (k : Alu) (swaps : Bool) (w : Brought) → IsSumOp o → k ≡ alu_of o → swaps ≡ commutes o → IsArg home z a x.arg (leaks_of x.leaks) → IsArg home z c y.arg (leaks_of y.leaks) → IsDest home z d b.arg (leaks_of b.leaks)
      → NotBothImm x.arg y.arg → IsBrought swaps z b.arg x y w → RowOf (expr.Bin o a c at) (row_behind w (action.Alu k z b.arg w.second None))
  sum_is {o} {a} {c} {x} {y} b at k swaps w h e same ia ic id nn was =
      let is : IsBrought (commutes o) z b.arg x y w = subst (λ q. IsBrought q z b.arg x y w) same was in
      subst (λ j. RowOf (expr.Bin o a c at) (row_behind w (action.Alu j z b.arg w.second None))) (sym e)
      (subst (HasRow home z d (expr.Bin o a c at) (acts_of (row_behind w (action.Alu (alu_of o) z b.arg w.second None)))) (sym is.items)
      (sums at h ia ic id nn (ap (behind (λ u. action.Alu (alu_of o) z b.arg u None)) is.actions)))

  pub carry_is : {o : BinOp} {a c : Expr} {x y : Operand} (b : Operand) (inner at : Span) (f : Var) (pin : Pinned) (k : Alu) (swaps : Bool) (w : Brought) → IsCarryOp o → k ≡ carry_alu o → swaps ≡ commutes o → home (key_of (ref_of f)) ≡ Some (in_flag pin.variable) → pin.span ≡ (ref_of f).span
      → IsArg home z a x.arg (leaks_of x.leaks) → IsArg home z c y.arg (leaks_of y.leaks) → IsDest home z d b.arg (leaks_of b.leaks)
      → NotBothImm x.arg y.arg → IsBrought swaps z b.arg x y w → RowOf (expr.Bin o (expr.Bin o a c inner) (expr.Var f) at) (row_behind w (action.Alu k z b.arg w.second (Some pin)))
  carry_is {o} {a} {c} {x} {y} b inner at f pin k swaps w h e same isf span ia ic id nn was =
      let is : IsBrought (commutes o) z b.arg x y w = subst (λ q. IsBrought q z b.arg x y w) same was in
      subst (λ j. RowOf (expr.Bin o (expr.Bin o a c inner) (expr.Var f) at) (row_behind w (action.Alu j z b.arg w.second (Some pin)))) (sym e)
      (subst (HasRow home z d (expr.Bin o (expr.Bin o a c inner) (expr.Var f) at) (acts_of (row_behind w (action.Alu (carry_alu o) z b.arg w.second (Some pin))))) (sym is.items)
      (carries f pin inner at h ia ic id nn isf span (ap (behind (λ u. action.Alu (carry_alu o) z b.arg u (Some pin))) is.actions)))

  pub sign_is : {o : One} {e a : Expr} {x : Operand} (b y : Operand) (w : Brought) → y ≡ record { arg = nothing; leaks = Silent } → IsSign o e a → IsArg home z a x.arg (leaks_of x.leaks) → IsDest home z d b.arg (leaks_of b.leaks)
      → NotImm x.arg → IsBrought false z b.arg x y w → RowOf e (row_behind w (action.One o z b.arg))
  sign_is {o} {e} {x = x} b y w same sign ia id ni is =
      let it : IsBrought false z b.arg x (record { arg = nothing; leaks = Silent }) w = subst (λ u. IsBrought false z b.arg x u w) same is in
      subst (HasRow home z d e (acts_of (row_behind w (action.One o z b.arg)))) (sym it.items)
      (signs sign ia id ni (ap (behind (λ u. action.One o z b.arg)) it.actions))

  pub times_is : {a c : Expr} {x y : Operand} (at : Span) (m : ℕ) (swaps : Bool) (w : Brought) → IsWide z → swaps ≡ not (is_imm x.arg) → IsArg home z a x.arg (leaks_of x.leaks) → IsArg home z c y.arg (leaks_of y.leaks) → IsDest home z d (arg.Var m) silent
      → NotImm y.arg → IsBrought swaps z (arg.Var m) x y w → RowOf (expr.Bin op.Mul a c at) (row_behind w (action.Imul z m w.second))
  times_is {a} {c} {x} {y} at m swaps w wide same ia ic id ni was =
      let is : IsBrought (not (is_imm x.arg)) z (arg.Var m) x y w = subst (λ q. IsBrought q z (arg.Var m) x y w) same was in
      subst (HasRow home z d (expr.Bin op.Mul a c at) (acts_of (row_behind w (action.Imul z m w.second)))) (sym is.items)
      (times at wide ia ic id ni (ap (behind (action.Imul z m)) is.actions))

  pub times_by_is : {a c : Expr} (x : Operand) (at : Span) (m : ℕ) (i : ℤ) (s : Option ℕ) → IsWide z → IsArg home z a x.arg (leaks_of x.leaks) → IsArg home z c (arg.Imm i) silent → IsDest home z d (arg.Var m) silent
      → NotImm x.arg → nth_of s ≡ numbers_from (leaks_of x.leaks) 0 → RowOf (expr.Bin op.Mul a c at) (record { before = None; last = record { action = action.ImulBy z m x.arg i; shown = record { first = s; second = None } } })
  times_by_is x at m i s wide ia ic id ni e =
      alone (action.ImulBy z m x.arg i) (record { first = s; second = None }) (These (numbers_from (leaks_of x.leaks) 0)) (item_one s (numbers_from (leaks_of x.leaks) 0) e) (times_by at wide ia ic id ni)

  pub shift_is : {o : BinOp} {a : Expr} {x : Operand} (b : Operand) (n : ℕ) (there at : Span) (k : Shift) (y : Operand) (w : Brought) → y ≡ record { arg = nothing; leaks = Silent } → IsShiftOp o → k ≡ shift_of o → n < bits_of z → IsArg home z a x.arg (leaks_of x.leaks)
      → IsDest home z d b.arg (leaks_of b.leaks) → NotImm x.arg → IsBrought false z b.arg x y w → RowOf (expr.Bin o a (expr.Num (pos n) there) at) (row_behind w (action.Shift k z b.arg n))
  shift_is {o} {a} {x} b n there at k y w same h e less ia id ni is =
      let it : IsBrought false z b.arg x (record { arg = nothing; leaks = Silent }) w = subst (λ u. IsBrought false z b.arg x u w) same is in
      subst (λ j. RowOf (expr.Bin o a (expr.Num (pos n) there) at) (row_behind w (action.Shift j z b.arg n))) (sym e)
      (subst (HasRow home z d (expr.Bin o a (expr.Num (pos n) there) at) (acts_of (row_behind w (action.Shift (shift_of o) z b.arg n)))) (sym it.items)
      (shifts n there at h less ia id ni (ap (behind (λ u. action.Shift (shift_of o) z b.arg n)) it.actions)))

  pub shift_by_is : {o : BinOp} {a : Expr} {x : Operand} (b : Operand) (v : Var) (there inner at : Span) (k : Shift) (pin : Pinned) (w : Brought) → IsShiftOp o → k ≡ shift_of o → home (key_of (ref_of v)) ≡ Some (in_register pin.variable S8) → pin.span ≡ (ref_of v).span
      → IsArg home z a x.arg (leaks_of x.leaks) → IsDest home z d b.arg (leaks_of b.leaks) → IsBrought false z b.arg x (record { arg = arg.Var pin.variable; leaks = Silent }) w
      → RowOf (expr.Bin o a (expr.Bin op.And (expr.Var v) (expr.Num (pos (mask_of z)) there) inner) at) (row_behind w (action.ShiftBy k z b.arg pin))
  shift_by_is {o} {a} {x} b v there inner at k pin w h e isv span ia id is =
      let e2 = expr.Bin o a (expr.Bin op.And (expr.Var v) (expr.Num (pos (mask_of z)) there) inner) at in
      subst (λ j. RowOf e2 (row_behind w (action.ShiftBy j z b.arg pin))) (sym e)
      (subst (HasRow home z d e2 (acts_of (row_behind w (action.ShiftBy (shift_of o) z b.arg pin)))) (sym is.items)
      (shifts_by v pin there inner at h isv span ia id (ap (behind (λ u. action.ShiftBy (shift_of o) z b.arg pin)) is.actions)))

  pub extend_is : {a : Expr} (y : Operand) (from : Size) (m : ℕ) (sign : Bool) (at : Span) (s : Option ℕ) → own_size a ≡ Some from → bits_of from < bits_of z → IsArg home from a y.arg (leaks_of y.leaks) → NotImm y.arg → IsDest home z d (arg.Var m) silent
      → nth_of s ≡ numbers_from (leaks_of y.leaks) 0 → RowOf (expr.Cast z sign a at) (record { before = None; last = record { action = action.Extend sign z from m y.arg; shown = record { first = s; second = None } } })
  extend_is y from m sign at s own less ia ni id e =
      alone (action.Extend sign z from m y.arg) (record { first = s; second = None }) (These (numbers_from (leaks_of y.leaks) 0)) (item_one s (numbers_from (leaks_of y.leaks) 0) e) (extends sign at own less ia ni id)

  pub lowest_is : {a : Expr} (from : Size) (m n : ℕ) (at : Span) → own_size a ≡ Some from → bits_of z ≤ bits_of from → IsArg home from a (arg.Var n) silent → IsDest home z d (arg.Var m) silent
      → RowOf (expr.Cast z false a at) (record { before = None; last = record { action = action.Mov z (arg.Var m) (arg.Var n); shown = record { first = None; second = None } } })
  lowest_is from m n at own less ia id = lowest at own less ia id
