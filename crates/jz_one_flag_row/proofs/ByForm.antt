-- An intrinsic by its form, and back.
use Rattle.std.proofs.Common.{◌≡◌, ℕ, ℤ, Bool, true, false, List, [], ◌∷◌, Some, None, refl, sym, ap, ◌∙◌, subst}
use Rattle.std.specs.Prelude.{not}
use Rattle.jz_words.specs.declared.size.Size.{Size}
use Rattle.x64_insn.specs.declared.types.Alu.{Alu}
use Rattle.x64_insn.specs.declared.types.Alu.TheVariants as alu
use Rattle.x64_insn.specs.declared.types.One.{One}
use Rattle.x64_insn.specs.declared.types.One.TheVariants as one
use Rattle.x64_insn.specs.declared.types.Shift.{Shift}
use Rattle.x64_insn.specs.declared.types.Shift.TheVariants as shift
use Rattle.jz_tree.specs.declared.intrinsic.Intrinsic.{Intrinsic}
use Rattle.jz_tree.specs.declared.intrinsic.Intrinsic.TheVariants as name
use Rattle.jz_io.specs.declared.span.Span.{Span}
use Rattle.jz_tree.specs.declared.expr.BinOp.{BinOp}
use Rattle.jz_tree.specs.declared.expr.BinOp.TheVariants as op
use Rattle.jz_tree.specs.declared.expr.Expr.{Expr}
use Rattle.jz_tree.specs.declared.expr.Expr.TheVariants as expr
use Rattle.jz_tree.specs.declared.expr.Expr.TheOpen.{Expr-F}
use Rattle.jz_tree.specs.declared.expr.Expr.TheViews.{out-Expr}
use Rattle.jz_tree.specs.declared.stmt.Lval.{Lval}
use Rattle.jz_meaning.specs.Assignments.{Layer, left_span}
use Rattle.jz_operations.specs.declared.operation.Arg.{Arg}
use Rattle.jz_operations.specs.declared.operation.Arg.TheVariants as arg
use Rattle.jz_operations.specs.declared.operation.Action.{Action}
use Rattle.jz_operations.specs.declared.operation.Action.TheVariants as action
use Rattle.jz_operations.specs.declared.operation.Flags.{Flags}
use Rattle.jz_operations.proofs.Somes.{same_some}
use Rattle.jz_change.specs.declared.change.Numbers.{Numbers}
use Rattle.jz_change.specs.declared.change.Numbers.TheVariants.{These}
use Rattle.jz_homes.specs.Homes.{Homes}
use Rattle.jz_homes.specs.Operands.{Leaks, silent, IsArg, IsDest}
use Rattle.jz_row_operations.specs.Codes.{no_flag}
use Rattle.jz_row_operations.specs.Rows.{IsWide, NotImm, IsSumOp, IsCarryOp, IsShiftOp, IsSign, a_minus, a_not}
use Rattle.jz_row_operations.specs.Table.{is_imm, times_code, times_by_code}
use Rattle.jz_row_operations.specs.Lowering.{numbers_from, two_shown, HasRow, moves, sums, carries, signs, times, times_by, shifts, shifts_by, extends, lowest}
use Rattle.jz_one_row.proofs.Outs.{out_bin, out_cast, out_neg, out_not}
use Rattle.jz_one_row.proofs.Operands.{ArgLayer, arg_layer}
use Rattle.jz_flag_rows.specs.Results.{AreFive, AreFour, AreTwo}
use Rattle.jz_flag_rows.specs.Wide.{divide_two_code}
use Rattle.jz_flag_rows.specs.Instructions as table
use Rattle.jz_flag_rows.specs.Instructions.{two_of, carry_of, compare_of, step_of, shift_named, rotation_named, HasInstruction}
use Rattle.jz_one_flag_row.specs.Forms.{Form, f_two, f_carried, f_one, f_swap, f_address, f_compare, f_shift, f_times, f_wide, f_divide, Lead, l_none, l_two, l_four, l_five, form_of, lead_of, AreLed, IsOne, IsCounted, HasForm, IsFormed}

-- ---- forms of names
two_form : (i : Intrinsic) (k : Alu × Bool) → two_of i ≡ Some k → (form_of i ≡ f_two k.0 k.1) × (lead_of i ≡ l_five)
two_form name.Add k e = (ap (λ (j : Alu × Bool). f_two j.0 j.1) (same_some _ k e), refl)
two_form name.Sub k e = (ap (λ (j : Alu × Bool). f_two j.0 j.1) (same_some _ k e), refl)
two_form name.And k e = (ap (λ (j : Alu × Bool). f_two j.0 j.1) (same_some _ k e), refl)
two_form name.Or k e = (ap (λ (j : Alu × Bool). f_two j.0 j.1) (same_some _ k e), refl)
two_form name.Xor k e = (ap (λ (j : Alu × Bool). f_two j.0 j.1) (same_some _ k e), refl)
two_form name.Adc k e = absurd cc
two_form name.Sbb k e = absurd cc
two_form name.Neg k e = absurd cc
two_form name.Inc k e = absurd cc
two_form name.Dec k e = absurd cc
two_form name.Not k e = absurd cc
two_form name.Bswap k e = absurd cc
two_form name.Lea k e = absurd cc
two_form name.Cmp k e = absurd cc
two_form name.Test k e = absurd cc
two_form name.Shl k e = absurd cc
two_form name.Shr k e = absurd cc
two_form name.Sar k e = absurd cc
two_form name.Rol k e = absurd cc
two_form name.Ror k e = absurd cc
two_form name.Imul k e = absurd cc
two_form name.Mul k e = absurd cc
two_form name.Div k e = absurd cc
two_form name.Setcc k e = absurd cc

carry_form : (i : Intrinsic) (k : Alu × Bool) → carry_of i ≡ Some k → (form_of i ≡ f_carried k.0 k.1) × (lead_of i ≡ l_five)
carry_form name.Add k e = absurd cc
carry_form name.Sub k e = absurd cc
carry_form name.And k e = absurd cc
carry_form name.Or k e = absurd cc
carry_form name.Xor k e = absurd cc
carry_form name.Adc k e = (ap (λ (j : Alu × Bool). f_carried j.0 j.1) (same_some _ k e), refl)
carry_form name.Sbb k e = (ap (λ (j : Alu × Bool). f_carried j.0 j.1) (same_some _ k e), refl)
carry_form name.Neg k e = absurd cc
carry_form name.Inc k e = absurd cc
carry_form name.Dec k e = absurd cc
carry_form name.Not k e = absurd cc
carry_form name.Bswap k e = absurd cc
carry_form name.Lea k e = absurd cc
carry_form name.Cmp k e = absurd cc
carry_form name.Test k e = absurd cc
carry_form name.Shl k e = absurd cc
carry_form name.Shr k e = absurd cc
carry_form name.Sar k e = absurd cc
carry_form name.Rol k e = absurd cc
carry_form name.Ror k e = absurd cc
carry_form name.Imul k e = absurd cc
carry_form name.Mul k e = absurd cc
carry_form name.Div k e = absurd cc
carry_form name.Setcc k e = absurd cc

step_form : (i : Intrinsic) (k : One) → step_of i ≡ Some k → (form_of i ≡ f_one k) × (lead_of i ≡ l_four)
step_form name.Add k e = absurd cc
step_form name.Sub k e = absurd cc
step_form name.And k e = absurd cc
step_form name.Or k e = absurd cc
step_form name.Xor k e = absurd cc
step_form name.Adc k e = absurd cc
step_form name.Sbb k e = absurd cc
step_form name.Neg k e = absurd cc
step_form name.Inc k e = (ap (λ (j : One). f_one j) (same_some _ k e), refl)
step_form name.Dec k e = (ap (λ (j : One). f_one j) (same_some _ k e), refl)
step_form name.Not k e = absurd cc
step_form name.Bswap k e = absurd cc
step_form name.Lea k e = absurd cc
step_form name.Cmp k e = absurd cc
step_form name.Test k e = absurd cc
step_form name.Shl k e = absurd cc
step_form name.Shr k e = absurd cc
step_form name.Sar k e = absurd cc
step_form name.Rol k e = absurd cc
step_form name.Ror k e = absurd cc
step_form name.Imul k e = absurd cc
step_form name.Mul k e = absurd cc
step_form name.Div k e = absurd cc
step_form name.Setcc k e = absurd cc

compare_form : (i : Intrinsic) (k : Alu) → compare_of i ≡ Some k → (form_of i ≡ f_compare k) × (lead_of i ≡ l_five)
compare_form name.Add k e = absurd cc
compare_form name.Sub k e = absurd cc
compare_form name.And k e = absurd cc
compare_form name.Or k e = absurd cc
compare_form name.Xor k e = absurd cc
compare_form name.Adc k e = absurd cc
compare_form name.Sbb k e = absurd cc
compare_form name.Neg k e = absurd cc
compare_form name.Inc k e = absurd cc
compare_form name.Dec k e = absurd cc
compare_form name.Not k e = absurd cc
compare_form name.Bswap k e = absurd cc
compare_form name.Lea k e = absurd cc
compare_form name.Cmp k e = (ap (λ (j : Alu). f_compare j) (same_some _ k e), refl)
compare_form name.Test k e = (ap (λ (j : Alu). f_compare j) (same_some _ k e), refl)
compare_form name.Shl k e = absurd cc
compare_form name.Shr k e = absurd cc
compare_form name.Sar k e = absurd cc
compare_form name.Rol k e = absurd cc
compare_form name.Ror k e = absurd cc
compare_form name.Imul k e = absurd cc
compare_form name.Mul k e = absurd cc
compare_form name.Div k e = absurd cc
compare_form name.Setcc k e = absurd cc

shift_form : (i : Intrinsic) (k : Shift) → shift_named i ≡ Some k → (form_of i ≡ f_shift k) × (lead_of i ≡ l_five)
shift_form name.Add k e = absurd cc
shift_form name.Sub k e = absurd cc
shift_form name.And k e = absurd cc
shift_form name.Or k e = absurd cc
shift_form name.Xor k e = absurd cc
shift_form name.Adc k e = absurd cc
shift_form name.Sbb k e = absurd cc
shift_form name.Neg k e = absurd cc
shift_form name.Inc k e = absurd cc
shift_form name.Dec k e = absurd cc
shift_form name.Not k e = absurd cc
shift_form name.Bswap k e = absurd cc
shift_form name.Lea k e = absurd cc
shift_form name.Cmp k e = absurd cc
shift_form name.Test k e = absurd cc
shift_form name.Shl k e = (ap (λ (j : Shift). f_shift j) (same_some _ k e), refl)
shift_form name.Shr k e = (ap (λ (j : Shift). f_shift j) (same_some _ k e), refl)
shift_form name.Sar k e = (ap (λ (j : Shift). f_shift j) (same_some _ k e), refl)
shift_form name.Rol k e = absurd cc
shift_form name.Ror k e = absurd cc
shift_form name.Imul k e = absurd cc
shift_form name.Mul k e = absurd cc
shift_form name.Div k e = absurd cc
shift_form name.Setcc k e = absurd cc

rotation_form : (i : Intrinsic) (k : Shift) → rotation_named i ≡ Some k → (form_of i ≡ f_shift k) × (lead_of i ≡ l_two)
rotation_form name.Add k e = absurd cc
rotation_form name.Sub k e = absurd cc
rotation_form name.And k e = absurd cc
rotation_form name.Or k e = absurd cc
rotation_form name.Xor k e = absurd cc
rotation_form name.Adc k e = absurd cc
rotation_form name.Sbb k e = absurd cc
rotation_form name.Neg k e = absurd cc
rotation_form name.Inc k e = absurd cc
rotation_form name.Dec k e = absurd cc
rotation_form name.Not k e = absurd cc
rotation_form name.Bswap k e = absurd cc
rotation_form name.Lea k e = absurd cc
rotation_form name.Cmp k e = absurd cc
rotation_form name.Test k e = absurd cc
rotation_form name.Shl k e = absurd cc
rotation_form name.Shr k e = absurd cc
rotation_form name.Sar k e = absurd cc
rotation_form name.Rol k e = (ap (λ (j : Shift). f_shift j) (same_some _ k e), refl)
rotation_form name.Ror k e = (ap (λ (j : Shift). f_shift j) (same_some _ k e), refl)
rotation_form name.Imul k e = absurd cc
rotation_form name.Mul k e = absurd cc
rotation_form name.Div k e = absurd cc
rotation_form name.Setcc k e = absurd cc

formed : {home : Homes} {z : Size} {to : List Lval} {es : List Expr} {fl : Flags} {acts : List Action} {items : List Numbers} (i : Intrinsic) (f : Form) (l : Lead) (rest : List Lval)
    → (form_of i ≡ f) × (lead_of i ≡ l) → AreLed home l to fl rest → HasForm home z f rest es acts items → IsFormed home z i to es fl acts items
formed {home} {z} {to} {es} {fl} {acts} {items} i f l rest e led row = record {
  rest = rest;
  led = subst (λ m. AreLed home m to fl rest) (sym e.1) led;
  row = subst (λ g. HasForm home z g rest es acts items) (sym e.0) row;
}

pub by_form : (home : Homes) (z : Size) (i : Intrinsic) (to : List Lval) (es : List Expr) (fl : Flags) (acts : List Action) (items : List Numbers) → HasInstruction home z i to es fl acts items → IsFormed home z i to es fl acts items
by_form home z i to es fl acts items (table.two_operands {k} {d} {a} {c} {x} {y} {b} {p} {q} {r} e led f g h code) =
    formed i (f_two k.0 k.1) l_five (d ∷ []) (two_form i k e) led (record { x = x; y = y; to = b; p = p; q = q; r = r; first = f; second = g; dest = h; code = code; shown = refl })
by_form home z i to es fl acts items (table.with_carry {k} {d} {a} {c} {x} {y} {b} {p} {q} {r} v carry e led f g h home_is span_is code) =
    formed i (f_carried k.0 k.1) l_five (d ∷ []) (carry_form i k e) led (record {
      flag = v;
      carry = carry;
      is_flag = refl;
      home_is = home_is;
      span_is = span_is;
      row = record { x = x; y = y; to = b; p = p; q = q; r = r; first = f; second = g; dest = h; code = code; shown = refl };
    })
by_form home z i to es fl acts items (table.minus {d} {a} {x} {b} {p} {r} led f h code) =
    formed name.Neg (f_one one.Neg) l_five (d ∷ []) (refl, refl) led (record { x = x; to = b; p = p; r = r; operand = f; dest = h; code = code; shown = refl })
by_form home z i to es fl acts items (table.steps {k} {d} {a} {x} {b} {p} {r} e led f h code) =
    formed i (f_one k) l_four (d ∷ []) (step_form i k e) led (record { x = x; to = b; p = p; r = r; operand = f; dest = h; code = code; shown = refl })
by_form home z i to es fl acts items (table.complement {d} {a} {x} {b} {p} {r} f h code) =
    formed name.Not (f_one one.Not) l_none (d ∷ []) (refl, refl) (refl, refl) (record { x = x; to = b; p = p; r = r; operand = f; dest = h; code = code; shown = refl })
by_form home z i to es fl acts items (table.swap {d} {a} {x} {v} {p} long f h code) =
    formed name.Bswap f_swap l_none (d ∷ []) (refl, refl) (refl, refl) (record { x = x; v = v; p = p; long = long; operand = f; dest = h; code = code; shown = refl })
by_form home z i to es fl acts items (table.address {d} {a} {t} {m} {v} f g h) =
    formed name.Lea f_address l_none (d ∷ []) (refl, refl) (refl, refl) (record { sum = t; found = m; v = v; is_sum = f; is_address = g; dest = h; code = refl; shown = refl })
by_form home z i to es fl acts items (table.compares {k} {a} {c} {x} {y} {p} {q} e led f g ni na) =
    formed i (f_compare k) l_five [] (compare_form i k e) led (record { x = x; y = y; p = p; q = q; first = f; second = g; no_number = ni; no_access = na; code = refl; shown = refl })
by_form home z i to es fl acts items (table.shifts {k} {d} {a} {c} {x} {b} {n} {m} {p} {r} e led f g h code) =
    formed i (f_shift k) l_five (d ∷ []) (shift_form i k e) led (record { x = x; to = b; places = n; number = m; p = p; r = r; operand = f; count = g; dest = h; code = code; shown = refl })
by_form home z i to es fl acts items (table.rotates {k} {d} {a} {c} {x} {b} {n} {m} {p} {r} e led f g h code) =
    formed i (f_shift k) l_two (d ∷ []) (rotation_form i k e) led (record { x = x; to = b; places = n; number = m; p = p; r = r; operand = f; count = g; dest = h; code = code; shown = refl })
by_form home z i to es fl acts items (table.times {d} {a} {c} {x} {y} {v} {p} {q} wide led f g h ni code) =
    formed name.Imul f_times l_five (d ∷ []) (refl, refl) led (times (left_span d) wide f g h ni code)
by_form home z i to es fl acts items (table.times_by {d} {a} {c} {x} {i = n} {v} {p} wide led f g h ni) =
    formed name.Imul f_times l_five (d ∷ []) (refl, refl) led (times_by (left_span d) wide f g h ni)
by_form home z i to es fl acts items (table.wide_product {h = hi} {l} {hk} {lk} {a} {c} {x} {y} {p} {q} long led kh kl f g ni code) =
    formed name.Mul f_wide l_five (hi ∷ l ∷ []) (refl, refl) led (record {
      upper = hk;
      lower = lk;
      x = x;
      y = y;
      p = p;
      q = q;
      long = long;
      high = kh;
      low = kl;
      first = f;
      second = g;
      no_number = ni;
      code = code;
      shown = refl;
    })
by_form home z i to es fl acts items (table.division {q} {r} {qk} {rk} {hi} {lo} {c} {x} {y} {w} {p} {s} {u} long led kq kr f g h ni a1 a2 a3) =
    formed name.Div f_divide l_five (q ∷ r ∷ []) (refl, refl) led (record {
      quotient = qk;
      remainder = rk;
      x = x;
      y = y;
      w = w;
      p = p;
      s = s;
      u = u;
      long = long;
      first_to = kq;
      second_to = kr;
      high = f;
      low = g;
      by = h;
      no_number = ni;
      high_apart = a1;
      quotient_apart = a2;
      remainder_apart = a3;
      code = refl;
      shown = refl;
    })

-- ---- a row of a signed product
no_operand : (home : Homes) (z : Size) (a b : Expr) (at : Span) (x : Arg) (p : Leaks) → ArgLayer home z (Expr-F.Bin op.Mul a b at) x p → ⊥
no_operand home z a b at x p h = elim h [ ]

data TimesAt (home : Homes) (z : Size) (d : Lval) (a b : Expr) : List Action → List Numbers → Type 0 where
  at_operand :
      {x y : Arg} {v : ℕ} {p q : Leaks} {acts : List Action}
      → IsWide z → IsArg home z a x p → IsArg home z b y q → IsDest home z d (arg.Var v) silent → NotImm y → times_code z v x y ≡ Some acts
      → TimesAt home z d a b acts (two_shown (not (is_imm x)) (arg.Var v) x y p q)
  at_number :
      {x : Arg} {n : ℤ} {v : ℕ} {p : Leaks}
      → IsWide z → IsArg home z a x p → IsArg home z b (arg.Imm n) silent → IsDest home z d (arg.Var v) silent → NotImm x
      → TimesAt home z d a b (times_by_code z v x n) (These (numbers_from p 0) ∷ [])

module _ (home : Homes) (z : Size) (d : Lval) (a b : Expr) (at : Span) where
  mul_is : (o : BinOp) (a2 b2 : Expr) (s : Span) → out-Expr (expr.Bin o a2 b2 s) ≡ Expr-F.Bin op.Mul a b at → o ≡ op.Mul
  mul_is o a2 b2 s e = let f : ◌≡◌ {A = Layer} (Expr-F.Bin o a2 b2 s) (Expr-F.Bin op.Mul a b at) = sym (out_bin o a2 b2 s) ∙ e in cc

  first_is : (o : BinOp) (a2 b2 : Expr) (s : Span) → out-Expr (expr.Bin o a2 b2 s) ≡ Expr-F.Bin op.Mul a b at → a2 ≡ a
  first_is o a2 b2 s e = let f : ◌≡◌ {A = Layer} (Expr-F.Bin o a2 b2 s) (Expr-F.Bin op.Mul a b at) = sym (out_bin o a2 b2 s) ∙ e in cc

  second_is : (o : BinOp) (a2 b2 : Expr) (s : Span) → out-Expr (expr.Bin o a2 b2 s) ≡ Expr-F.Bin op.Mul a b at → b2 ≡ b
  second_is o a2 b2 s e = let f : ◌≡◌ {A = Layer} (Expr-F.Bin o a2 b2 s) (Expr-F.Bin op.Mul a b at) = sym (out_bin o a2 b2 s) ∙ e in cc

  no_sign : (u : One) (e c : Expr) → IsSign u e c → out-Expr e ≡ Expr-F.Bin op.Mul a b at → ⊥
  no_sign u e c (a_minus c2 s) f = let q : ◌≡◌ {A = Layer} (Expr-F.Neg c2 s) (Expr-F.Bin op.Mul a b at) = sym (out_neg c2 s) ∙ f in absurd cc
  no_sign u e c (a_not c2 s) f = let q : ◌≡◌ {A = Layer} (Expr-F.Not c2 s) (Expr-F.Bin op.Mul a b at) = sym (out_not c2 s) ∙ f in absurd cc

  no_cast : (y : Size) (s : Bool) (c : Expr) (here : Span) → out-Expr (expr.Cast y s c here) ≡ Expr-F.Bin op.Mul a b at → ⊥
  no_cast y s c here f = let q : ◌≡◌ {A = Layer} (Expr-F.Cast y s c here) (Expr-F.Bin op.Mul a b at) = sym (out_cast y s c here) ∙ f in absurd cc

  times_at : (e : Expr) (acts : List Action) (items : List Numbers) → out-Expr e ≡ Expr-F.Bin op.Mul a b at → HasRow home z d e acts items → TimesAt home z d a b acts items
  times_at e acts items f (moves {x} {p} ia id) = absurd (no_operand home z a b at x p (subst (λ l. ArgLayer home z l x p) f (arg_layer home z e x p ia)))
  times_at e acts items f (sums {o} {a = a2} {c = c2} s h ia ic id ni k) = absurd (subst IsSumOp (mul_is o a2 c2 s f) h)
  times_at e acts items f (carries {o} {a = a2} {c = c2} v k inner s h ia ic id ni flag span code) = absurd (subst IsCarryOp (mul_is o (expr.Bin o a2 c2 inner) (expr.Var v) s f) h)
  times_at e acts items f (signs {o = u} {a = c} h ia id ni k) = absurd (no_sign u e c h f)
  times_at e acts items f (times {a = a2} {c = c2} {x} {y} {m} {p} {q} s wide ia ic id ni k) =
      at_operand wide (subst (λ u. IsArg home z u x p) (first_is op.Mul a2 c2 s f) ia) (subst (λ u. IsArg home z u y q) (second_is op.Mul a2 c2 s f) ic) id ni k
  times_at e acts items f (times_by {a = a2} {c = c2} {x} {i} {m} {p} s wide ia ic id ni) =
      at_number wide (subst (λ u. IsArg home z u x p) (first_is op.Mul a2 c2 s f) ia) (subst (λ u. IsArg home z u (arg.Imm i) silent) (second_is op.Mul a2 c2 s f) ic) id ni
  times_at e acts items f (shifts {o} {a = a2} n there s h less ia id ni k) = absurd (subst IsShiftOp (mul_is o a2 _ s f) h)
  times_at e acts items f (shifts_by {o} {a = a2} v k there inner s h flag span ia id code) = absurd (subst IsShiftOp (mul_is o a2 _ s f) h)
  times_at e acts items f (extends {a = c} sign s own less ia ni id) = absurd (no_cast z sign c s f)
  times_at e acts items f (lowest {a = c} s own more ia id) = absurd (no_cast z false c s f)

-- ---- back
module _ (home : Homes) (z : Size) where
  abbrev Made : Intrinsic → List Lval → List Expr → Flags → List Action → List Numbers → Type 0
  Made i to es fl acts items = HasInstruction home z i to es fl acts items

  two_back : (i : Intrinsic) (k : Alu × Bool) (to rest : List Lval) (es : List Expr) (fl : Flags) (acts : List Action) (items : List Numbers) → two_of i ≡ Some k → AreFive home to fl rest → HasForm home z (f_two k.0 k.1) rest es acts items → Made i to es fl acts items
  two_back i k to [] es fl acts items e led h = absurd h
  two_back i k to (d ∷ d2 ∷ ds) es fl acts items e led h = absurd h
  two_back i k to (d ∷ []) [] fl acts items e led h = absurd h
  two_back i k to (d ∷ []) (a ∷ []) fl acts items e led h = absurd h
  two_back i k to (d ∷ []) (a ∷ b ∷ c ∷ cs) fl acts items e led h = absurd h
  two_back i k to (d ∷ []) (a ∷ b ∷ []) fl acts items e led h =
      subst (λ l. Made i to (a ∷ b ∷ []) fl acts l) (sym h.shown) (table.two_operands e led h.first h.second h.dest h.code)

  carry_back : (i : Intrinsic) (k : Alu × Bool) (to rest : List Lval) (es : List Expr) (fl : Flags) (acts : List Action) (items : List Numbers) → carry_of i ≡ Some k → AreFive home to fl rest → HasForm home z (f_carried k.0 k.1) rest es acts items → Made i to es fl acts items
  carry_back i k to [] es fl acts items e led h = absurd h
  carry_back i k to (d ∷ d2 ∷ ds) es fl acts items e led h = absurd h
  carry_back i k to (d ∷ []) [] fl acts items e led h = absurd h
  carry_back i k to (d ∷ []) (a ∷ []) fl acts items e led h = absurd h
  carry_back i k to (d ∷ []) (a ∷ b ∷ []) fl acts items e led h = absurd h
  carry_back i k to (d ∷ []) (a ∷ b ∷ c ∷ c2 ∷ cs) fl acts items e led h = absurd h
  carry_back i k to (d ∷ []) (a ∷ b ∷ c ∷ []) fl acts items e led h =
      let r = h.row in
      subst (λ l. Made i to (a ∷ b ∷ c ∷ []) fl acts l) (sym r.shown)
      (subst (λ u. Made i to (a ∷ b ∷ u ∷ []) fl acts (two_shown k.1 r.to r.x r.y r.p r.q)) (sym h.is_flag)
      (table.with_carry h.flag h.carry e led r.first r.second r.dest h.home_is h.span_is r.code))

  -- one operand, whatever stands before the value
  one_back : (i : Intrinsic) (k : One) (to rest : List Lval) (es : List Expr) (fl : Flags) (acts : List Action) (items : List Numbers)
      → ((d : Lval) (a : Expr) → rest ≡ d ∷ [] → IsOne home z k d a acts items → Made i to (a ∷ []) fl acts items) → HasForm home z (f_one k) rest es acts items → Made i to es fl acts items
  one_back i k to [] es fl acts items make h = absurd h
  one_back i k to (d ∷ d2 ∷ ds) es fl acts items make h = absurd h
  one_back i k to (d ∷ []) [] fl acts items make h = absurd h
  one_back i k to (d ∷ []) (a ∷ b ∷ bs) fl acts items make h = absurd h
  one_back i k to (d ∷ []) (a ∷ []) fl acts items make h = make d a refl h

  minus_back : (to rest : List Lval) (es : List Expr) (fl : Flags) (acts : List Action) (items : List Numbers) → AreFive home to fl rest → HasForm home z (f_one one.Neg) rest es acts items → Made name.Neg to es fl acts items
  minus_back to rest es fl acts items led h =
      one_back name.Neg one.Neg to rest es fl acts items
      (λ d a is r. subst (λ l. Made name.Neg to (a ∷ []) fl acts l) (sym r.shown) (table.minus (subst (AreFive home to fl) is led) r.operand r.dest r.code)) h

  step_back : (i : Intrinsic) (k : One) (to rest : List Lval) (es : List Expr) (fl : Flags) (acts : List Action) (items : List Numbers) → step_of i ≡ Some k → AreFour home to fl rest → HasForm home z (f_one k) rest es acts items → Made i to es fl acts items
  step_back i k to rest es fl acts items e led h =
      one_back i k to rest es fl acts items
      (λ d a is r. subst (λ l. Made i to (a ∷ []) fl acts l) (sym r.shown) (table.steps e (subst (AreFour home to fl) is led) r.operand r.dest r.code)) h

  not_back : (to rest : List Lval) (es : List Expr) (fl : Flags) (acts : List Action) (items : List Numbers) → AreLed home l_none to fl rest → HasForm home z (f_one one.Not) rest es acts items → Made name.Not to es fl acts items
  not_back to rest es fl acts items led h =
      subst (λ u. Made name.Not to es u acts items) (sym led.0)
      (subst (λ t. Made name.Not t es no_flag acts items) led.1
      (one_back name.Not one.Not rest rest es no_flag acts items
      (λ d a is r. subst (λ t. Made name.Not t (a ∷ []) no_flag acts items) (sym is) (subst (λ l. Made name.Not (d ∷ []) (a ∷ []) no_flag acts l) (sym r.shown) (table.complement r.operand r.dest r.code))) h))

  swap_at : (rest : List Lval) (es : List Expr) (acts : List Action) (items : List Numbers) → HasForm home z f_swap rest es acts items → Made name.Bswap rest es no_flag acts items
  swap_at [] es acts items h = absurd h
  swap_at (d ∷ d2 ∷ ds) es acts items h = absurd h
  swap_at (d ∷ []) [] acts items h = absurd h
  swap_at (d ∷ []) (a ∷ b ∷ bs) acts items h = absurd h
  swap_at (d ∷ []) (a ∷ []) acts items h = subst (λ l. Made name.Bswap (d ∷ []) (a ∷ []) no_flag acts l) (sym h.shown) (table.swap h.long h.operand h.dest h.code)

  lea_at : (rest : List Lval) (es : List Expr) (acts : List Action) (items : List Numbers) → HasForm home z f_address rest es acts items → Made name.Lea rest es no_flag acts items
  lea_at [] es acts items h = absurd h
  lea_at (d ∷ d2 ∷ ds) es acts items h = absurd h
  lea_at (d ∷ []) [] acts items h = absurd h
  lea_at (d ∷ []) (a ∷ b ∷ bs) acts items h = absurd h
  lea_at (d ∷ []) (a ∷ []) acts items h =
      subst (λ u. Made name.Lea (d ∷ []) (a ∷ []) no_flag u items) (sym h.code)
      (subst (λ l. Made name.Lea (d ∷ []) (a ∷ []) no_flag (action.Lea h.v h.found ∷ []) l) (sym h.shown) (table.address h.is_sum h.is_address h.dest))

  plain_back : (i : Intrinsic) (f : Form) (to rest : List Lval) (es : List Expr) (fl : Flags) (acts : List Action) (items : List Numbers)
      → ((rest : List Lval) → HasForm home z f rest es acts items → Made i rest es no_flag acts items) → AreLed home l_none to fl rest → HasForm home z f rest es acts items → Made i to es fl acts items
  plain_back i f to rest es fl acts items make led h = subst (λ u. Made i to es u acts items) (sym led.0) (subst (λ t. Made i t es no_flag acts items) led.1 (make rest h))

  compare_back : (i : Intrinsic) (k : Alu) (to rest : List Lval) (es : List Expr) (fl : Flags) (acts : List Action) (items : List Numbers) → compare_of i ≡ Some k → AreFive home to fl rest → HasForm home z (f_compare k) rest es acts items → Made i to es fl acts items
  compare_back i k to (d ∷ ds) es fl acts items e led h = absurd h
  compare_back i k to [] [] fl acts items e led h = absurd h
  compare_back i k to [] (a ∷ []) fl acts items e led h = absurd h
  compare_back i k to [] (a ∷ b ∷ c ∷ cs) fl acts items e led h = absurd h
  compare_back i k to [] (a ∷ b ∷ []) fl acts items e led h =
      subst (λ u. Made i to (a ∷ b ∷ []) fl u items) (sym h.code)
      (subst (λ l. Made i to (a ∷ b ∷ []) fl (action.Alu k z h.x h.y None ∷ []) l) (sym h.shown) (table.compares e led h.first h.second h.no_number h.no_access))

  -- a count, whatever flags stand before the value
  count_back : (i : Intrinsic) (k : Shift) (to rest : List Lval) (es : List Expr) (fl : Flags) (acts : List Action) (items : List Numbers)
      → ((d : Lval) (a b : Expr) → rest ≡ d ∷ [] → IsCounted home z k d a b acts items → Made i to (a ∷ b ∷ []) fl acts items) → HasForm home z (f_shift k) rest es acts items → Made i to es fl acts items
  count_back i k to [] es fl acts items make h = absurd h
  count_back i k to (d ∷ d2 ∷ ds) es fl acts items make h = absurd h
  count_back i k to (d ∷ []) [] fl acts items make h = absurd h
  count_back i k to (d ∷ []) (a ∷ []) fl acts items make h = absurd h
  count_back i k to (d ∷ []) (a ∷ b ∷ c ∷ cs) fl acts items make h = absurd h
  count_back i k to (d ∷ []) (a ∷ b ∷ []) fl acts items make h = make d a b refl h

  shift_back : (i : Intrinsic) (k : Shift) (to rest : List Lval) (es : List Expr) (fl : Flags) (acts : List Action) (items : List Numbers) → shift_named i ≡ Some k → AreFive home to fl rest → HasForm home z (f_shift k) rest es acts items → Made i to es fl acts items
  shift_back i k to rest es fl acts items e led h =
      count_back i k to rest es fl acts items
      (λ d a b is r. subst (λ l. Made i to (a ∷ b ∷ []) fl acts l) (sym r.shown) (table.shifts e (subst (AreFive home to fl) is led) r.operand r.count r.dest r.code)) h

  rotation_back : (i : Intrinsic) (k : Shift) (to rest : List Lval) (es : List Expr) (fl : Flags) (acts : List Action) (items : List Numbers) → rotation_named i ≡ Some k → AreTwo home to fl rest → HasForm home z (f_shift k) rest es acts items → Made i to es fl acts items
  rotation_back i k to rest es fl acts items e led h =
      count_back i k to rest es fl acts items
      (λ d a b is r. subst (λ l. Made i to (a ∷ b ∷ []) fl acts l) (sym r.shown) (table.rotates e (subst (AreTwo home to fl) is led) r.operand r.count r.dest r.code)) h

  times_made : (to : List Lval) (d : Lval) (a b : Expr) (fl : Flags) (acts : List Action) (items : List Numbers) → AreFive home to fl (d ∷ []) → TimesAt home z d a b acts items → Made name.Imul to (a ∷ b ∷ []) fl acts items
  times_made to d a b fl acts items led (at_operand wide f g h ni code) = table.times wide led f g h ni code
  times_made to d a b fl acts items led (at_number wide f g h ni) = table.times_by wide led f g h ni

  times_back : (to rest : List Lval) (es : List Expr) (fl : Flags) (acts : List Action) (items : List Numbers) → AreFive home to fl rest → HasForm home z f_times rest es acts items → Made name.Imul to es fl acts items
  times_back to [] es fl acts items led h = absurd h
  times_back to (d ∷ d2 ∷ ds) es fl acts items led h = absurd h
  times_back to (d ∷ []) [] fl acts items led h = absurd h
  times_back to (d ∷ []) (a ∷ []) fl acts items led h = absurd h
  times_back to (d ∷ []) (a ∷ b ∷ c ∷ cs) fl acts items led h = absurd h
  times_back to (d ∷ []) (a ∷ b ∷ []) fl acts items led h =
      times_made to d a b fl acts items led (times_at home z d a b (left_span d) (expr.Bin op.Mul a b (left_span d)) acts items (out_bin op.Mul a b (left_span d)) h)

  wide_back : (to rest : List Lval) (es : List Expr) (fl : Flags) (acts : List Action) (items : List Numbers) → AreFive home to fl rest → HasForm home z f_wide rest es acts items → Made name.Mul to es fl acts items
  wide_back to [] es fl acts items led h = absurd h
  wide_back to (d ∷ []) es fl acts items led h = absurd h
  wide_back to (d ∷ d2 ∷ d3 ∷ ds) es fl acts items led h = absurd h
  wide_back to (d ∷ d2 ∷ []) [] fl acts items led h = absurd h
  wide_back to (d ∷ d2 ∷ []) (a ∷ []) fl acts items led h = absurd h
  wide_back to (d ∷ d2 ∷ []) (a ∷ b ∷ c ∷ cs) fl acts items led h = absurd h
  wide_back to (d ∷ d2 ∷ []) (a ∷ b ∷ []) fl acts items led h =
      subst (λ l. Made name.Mul to (a ∷ b ∷ []) fl acts l) (sym h.shown) (table.wide_product h.long led h.high h.low h.first h.second h.no_number h.code)

  divide_back : (to rest : List Lval) (es : List Expr) (fl : Flags) (acts : List Action) (items : List Numbers) → AreFive home to fl rest → HasForm home z f_divide rest es acts items → Made name.Div to es fl acts items
  divide_back to [] es fl acts items led h = absurd h
  divide_back to (d ∷ []) es fl acts items led h = absurd h
  divide_back to (d ∷ d2 ∷ d3 ∷ ds) es fl acts items led h = absurd h
  divide_back to (d ∷ d2 ∷ []) [] fl acts items led h = absurd h
  divide_back to (d ∷ d2 ∷ []) (a ∷ []) fl acts items led h = absurd h
  divide_back to (d ∷ d2 ∷ []) (a ∷ b ∷ []) fl acts items led h = absurd h
  divide_back to (d ∷ d2 ∷ []) (a ∷ b ∷ c ∷ c2 ∷ cs) fl acts items led h = absurd h
  divide_back to (d ∷ d2 ∷ []) (a ∷ b ∷ c ∷ []) fl acts items led h =
      subst (λ u. Made name.Div to (a ∷ b ∷ c ∷ []) fl u items) (sym h.code)
      (subst (λ l. Made name.Div to (a ∷ b ∷ c ∷ []) fl (divide_two_code z h.quotient h.remainder h.x h.y h.w) l) (sym h.shown)
      (table.division h.long led h.first_to h.second_to h.high h.low h.by h.no_number h.high_apart h.quotient_apart h.remainder_apart))

  pub form_back : (i : Intrinsic) (to rest : List Lval) (es : List Expr) (fl : Flags) (acts : List Action) (items : List Numbers) → AreLed home (lead_of i) to fl rest → HasForm home z (form_of i) rest es acts items → Made i to es fl acts items
  form_back name.Add to rest es fl acts items led h = two_back name.Add (alu.Add, true) to rest es fl acts items refl led h
  form_back name.Sub to rest es fl acts items led h = two_back name.Sub (alu.Sub, false) to rest es fl acts items refl led h
  form_back name.And to rest es fl acts items led h = two_back name.And (alu.And, true) to rest es fl acts items refl led h
  form_back name.Or to rest es fl acts items led h = two_back name.Or (alu.Or, true) to rest es fl acts items refl led h
  form_back name.Xor to rest es fl acts items led h = two_back name.Xor (alu.Xor, true) to rest es fl acts items refl led h
  form_back name.Adc to rest es fl acts items led h = carry_back name.Adc (alu.Adc, true) to rest es fl acts items refl led h
  form_back name.Sbb to rest es fl acts items led h = carry_back name.Sbb (alu.Sbb, false) to rest es fl acts items refl led h
  form_back name.Neg to rest es fl acts items led h = minus_back to rest es fl acts items led h
  form_back name.Inc to rest es fl acts items led h = step_back name.Inc one.Inc to rest es fl acts items refl led h
  form_back name.Dec to rest es fl acts items led h = step_back name.Dec one.Dec to rest es fl acts items refl led h
  form_back name.Not to rest es fl acts items led h = not_back to rest es fl acts items led h
  form_back name.Bswap to rest es fl acts items led h = plain_back name.Bswap f_swap to rest es fl acts items (λ more row. swap_at more es acts items row) led h
  form_back name.Lea to rest es fl acts items led h = plain_back name.Lea f_address to rest es fl acts items (λ more row. lea_at more es acts items row) led h
  form_back name.Cmp to rest es fl acts items led h = compare_back name.Cmp alu.Cmp to rest es fl acts items refl led h
  form_back name.Test to rest es fl acts items led h = compare_back name.Test alu.Test to rest es fl acts items refl led h
  form_back name.Shl to rest es fl acts items led h = shift_back name.Shl shift.Shl to rest es fl acts items refl led h
  form_back name.Shr to rest es fl acts items led h = shift_back name.Shr shift.Shr to rest es fl acts items refl led h
  form_back name.Sar to rest es fl acts items led h = shift_back name.Sar shift.Sar to rest es fl acts items refl led h
  form_back name.Rol to rest es fl acts items led h = rotation_back name.Rol shift.Rol to rest es fl acts items refl led h
  form_back name.Ror to rest es fl acts items led h = rotation_back name.Ror shift.Ror to rest es fl acts items refl led h
  form_back name.Imul to rest es fl acts items led h = times_back to rest es fl acts items led h
  form_back name.Mul to rest es fl acts items led h = wide_back to rest es fl acts items led h
  form_back name.Div to rest es fl acts items led h = divide_back to rest es fl acts items led h
  form_back name.Setcc to rest es fl acts items led h = absurd h
