-- A comparison of two operands as CMP and its condition.
use Rattle.std.proofs.Common.{◌≡◌, ◌⊎◌, inl, inr, ℕ, ◌+◌, ◌*◌, ◌<ℤ◌, ◌≤ℤ◌, ◌<◌, ◌≤◌, Bool, true, false, List, [], ◌∷◌, ◌++◌, Option, Some, None, refl, sym, ap, ◌∙◌, subst, arith, ℤ, pos, ◌+ℤ◌, ◌-ℤ◌}
use Rattle.std.specs.Prelude.{nat_eq, nat_lt, nat_le, not, ◌||◌, int_lt, int_le, option_map, if◌then◌else◌}
use Rattle.std.specs.Option.{option_or}
use Rattle.std.proofs.lemmas.Int.{ints}
use Rattle.std.proofs.lemmas.Bool.{eq-eqb, eqb-true, eqb-false, ne_eqb, ltb-true, ltb-false, leb-true, leb-false, cases_lt}
use Rattle.std.proofs.lemmas.Bool.Decides.{nat_tests}
use Rattle.jz_io.specs.declared.span.Span.{Span}
use Rattle.jz_words.specs.declared.size.Size.{Size}
use Rattle.jz_words.specs.declared.size.Size.TheVariants.{S8, S16, S32, S64}
use Rattle.jz_words.specs.Sizes.{half, modulus, signed}
use Rattle.jz_words.specs.Words.{difference_of, borrow_of}
use Rattle.x64_insn.specs.declared.types.Alu.TheVariants as alu
use Rattle.x64_insn.specs.declared.types.Cond.{Cond}
use Rattle.x64_insn.specs.declared.types.Cond.TheVariants as cond
use Rattle.x64_insn.specs.declared.types.State as machine
use Rattle.x64_insn.specs.Answers.{flag, overflows, difference_answer, flags_of}
use Rattle.x64_insn.specs.Shifts.{differ}
use Rattle.x64_insn.specs.Rows.{known, of_one, holds}
use Rattle.jz_tree.specs.declared.expr.BinOp.{BinOp}
use Rattle.jz_tree.specs.declared.expr.BinOp.TheVariants as o
use Rattle.jz_tree.specs.declared.expr.Expr.{Expr}
use Rattle.jz_tree.specs.declared.expr.Expr.TheVariants as expr
use Rattle.jz_tree.specs.declared.expr.Expr.TheOpen.{Expr-F}
use Rattle.jz_tree.specs.declared.expr.Expr.TheFolds.{fold-roll-Expr}
use Rattle.jz_runs.specs.Rules.{went}
use Rattle.jz_meaning.specs.Attempts.{numbers_first, and_then, defined}
use Rattle.jz_meaning.specs.States.{Value, word, boolean, integer, State}
use Rattle.jz_meaning.specs.Operators.{compared, on_words, is_shift, is_settled, combined, binary, inverted}
use Rattle.jz_meaning.specs.Values.{own_size, evaluated, left_wanted, right_wanted, with_right, run_binary, size_of_operation, expr_step, ty_step, access_step, decl_step, var_step}
use Rattle.jz_meaning.specs.Assignments.{truth, bool_in}
use Rattle.jz_operations.specs.declared.operation.Arg.{Arg}
use Rattle.jz_operations.specs.declared.operation.Condition.{Condition}
use Rattle.jz_operations.specs.declared.operation.Condition.TheVariants as condition
use Rattle.jz_operations.specs.declared.operation.Action.TheVariants as action
use Rattle.jz_operations.specs.declared.operation.Operation.{Operation}
use Rattle.jz_operations.specs.Values as over
use Rattle.jz_operations.specs.Rows.{Frame, value_of, holds_in, Done, step, with_flags, all_five}
use Rattle.jz_operations.proofs.Somes.{same_some}
use Rattle.jz_homes.proofs.Shown.{shown, read_shown}
use Rattle.jz_homes.specs.Homes.{Homes, IsHoming, IsRelated}
use Rattle.jz_homes.specs.Operands.{IsCounted, Leaks, IsArg, shown_of}
use Rattle.jz_placing.specs.Variables.{numbers_of}
use Rattle.jz_row_operations.specs.Codes.{plain}
use Rattle.jz_row_operations.specs.Rows.{NotBothImm, cond_of, opposite}
use Rattle.jz_homes.proofs.Parts.{both_went, went_same, evaluated_bin, size_bin}
use Rattle.jz_homes.proofs.Reading.{operand_read}
use Rattle.jz_homes.proofs.Writing.{related_same}
use Rattle.jz_row_operations.proofs.Moves.{append_nil}
use Rattle.jz_row_operations.proofs.Sums.{OfSize, sized, whole, of_size, combined_words, NotNumbers, not_numbers, nones}

-- ---- the difference of two words is 0 exactly where they are one
difference_zero : (z : Size) (a b : ℕ) → a < modulus z → b < modulus z → a ≡ b → difference_of z a b false ≡ 0
difference_zero S8 a b h k e = omega (arith, h, k, e)
difference_zero S16 a b h k e = omega (arith, h, k, e)
difference_zero S32 a b h k e = omega (arith, h, k, e)
difference_zero S64 a b h k e = omega (arith, h, k, e)

zero_difference : (z : Size) (a b : ℕ) → a < modulus z → b < modulus z → difference_of z a b false ≡ 0 → a ≡ b
zero_difference S8 a b h k e = omega (arith, h, k, e)
zero_difference S16 a b h k e = omega (arith, h, k, e)
zero_difference S32 a b h k e = omega (arith, h, k, e)
zero_difference S64 a b h k e = omega (arith, h, k, e)

equal_by : (z : Size) (a b : ℕ) (c : Bool) → nat_eq a b ≡ c → a < modulus z → b < modulus z → nat_eq (difference_of z a b false) 0 ≡ nat_eq a b
equal_by z a b true e h k = eq-eqb _ _ (difference_zero z a b h k (eqb-true a b e)) ∙ sym e
equal_by z a b false e h k = ne_eqb _ _ (λ d. eqb-false a b e (zero_difference z a b h k d)) ∙ sym e

equal_is : (z : Size) (a b : ℕ) → a < modulus z → b < modulus z → nat_eq (difference_of z a b false) 0 ≡ nat_eq a b
equal_is z a b h k = equal_by z a b (nat_eq a b) refl h k

less_is : (a b : ℕ) → nat_lt a (b + 0) ≡ nat_lt a b
less_is a b = ap (nat_lt a) (let e : b + 0 ≡ b = omega arith in e)

at_most_is : (a b : ℕ) → (nat_lt a b || nat_eq a b) ≡ nat_le a b
at_most_is a b = grind (arith, nat_tests)

not_less : (a b : ℕ) → not (nat_lt a b) ≡ nat_le b a
not_less a b = grind (arith, nat_tests)

not_at_most : (a b : ℕ) → not (nat_le a b) ≡ nat_lt b a
not_at_most a b = grind (arith, nat_tests)

-- ---- flags that are defined
known_flag : (b : Bool) → known (Some (flag b)) ≡ Some b
known_flag true = refl
known_flag false = refl

-- a state whose flags are these five
abbrev flags_state : Bool → Bool → Bool → Bool → Bool → machine.State
flags_state of' cf sf pf zf = record { regs = []; rip = 0; flags = flag of' ∷ flag cf ∷ flag sf ∷ flag pf ∷ flag zf ∷ [] }

-- what the conditions of comparisons say of them
abbrev said : Cond → Bool → Bool → Bool → Bool → Bool
said cond.E of' cf sf zf = zf
said cond.Ne of' cf sf zf = not zf
said cond.B of' cf sf zf = cf
said cond.Ae of' cf sf zf = not cf
said cond.Be of' cf sf zf = cf || zf
said cond.A of' cf sf zf = not (cf || zf)
said cond.L of' cf sf zf = differ sf of'
said cond.Ge of' cf sf zf = not (differ sf of')
said cond.Le of' cf sf zf = zf || differ sf of'
said cond.G of' cf sf zf = not (zf || differ sf of')
said _ of' cf sf zf = false

abbrev IsCompared : Cond → Type 0
IsCompared cond.E = Unit {0}
IsCompared cond.Ne = Unit {0}
IsCompared cond.B = Unit {0}
IsCompared cond.Ae = Unit {0}
IsCompared cond.Be = Unit {0}
IsCompared cond.A = Unit {0}
IsCompared cond.L = Unit {0}
IsCompared cond.Ge = Unit {0}
IsCompared cond.Le = Unit {0}
IsCompared cond.G = Unit {0}
IsCompared _ = ⊥

says : (c : Cond) (of' cf sf pf zf : Bool) → IsCompared c → holds c (flags_state of' cf sf pf zf) ≡ Some (said c of' cf sf zf)
unfolding holds
says cond.E of' cf sf pf zf h = known_flag zf
says cond.Ne of' cf sf pf zf h = rw (known_flag zf) refl
says cond.B of' cf sf pf zf h = known_flag cf
says cond.Ae of' cf sf pf zf h = rw (known_flag cf) refl
says cond.Be of' cf sf pf zf h = rw (known_flag cf, known_flag zf) refl
says cond.A of' cf sf pf zf h = rw (known_flag cf, known_flag zf) refl
says cond.L of' cf sf pf zf h = rw (known_flag sf, known_flag of') refl
says cond.Ge of' cf sf pf zf h = rw (known_flag sf, known_flag of') refl
says cond.Le of' cf sf pf zf h = rw (known_flag sf, known_flag of', known_flag zf) refl
says cond.G of' cf sf pf zf h = rw (known_flag sf, known_flag of', known_flag zf) refl
says _ of' cf sf pf zf h = absurd h

-- ---- signed words: the sign of the difference and the overflow
lt_true : (x y : ℤ) → int_lt x y ≡ true → x <ℤ y
lt_true x y e = grind (arith, ints)

lt_false : (x y : ℤ) → int_lt x y ≡ false → y ≤ℤ x
lt_false x y e = grind (arith, ints)

le_true : (x y : ℤ) → int_le x y ≡ true → x ≤ℤ y
le_true x y e = grind (arith, ints)

le_false : (x y : ℤ) → int_le x y ≡ false → y <ℤ x
le_false x y e = grind (arith, ints)

-- two numbers in the range of words, and a word that stands for their difference
sign_by : (l1 l2 l3 n : Bool) (h m r : ℕ) (x y d : ℤ) → m ≡ 2 * h → r < m → (pos 0 -ℤ pos h) ≤ℤ x → x <ℤ pos h → (pos 0 -ℤ pos h) ≤ℤ y → y <ℤ pos h → d ≡ x -ℤ y → ((pos r ≡ d) ⊎ ((pos r ≡ d +ℤ pos m) ⊎ (pos r ≡ d -ℤ pos m))) → int_lt d (pos 0 -ℤ pos h) ≡ l1 → int_lt d (pos h) ≡ l2 → int_lt x y ≡ l3 → nat_le h r ≡ n → differ n (l1 || not l2) ≡ l3
sign_by true true true true h m r x y d em rm lx hx ly hy dx w e1 e2 e3 e4 = absurd (let k1 = lt_true d (pos 0 -ℤ pos h) e1 in let k2 = lt_true d (pos h) e2 in let k3 = lt_true x y e3 in let k4 = leb-true h r e4 in elim w [ inl u ↦ omega (arith, ints, em, rm, lx, hx, ly, hy, dx, u, k1, k2, k3, k4) | inr v ↦ elim v [ inl u ↦ omega (arith, ints, em, rm, lx, hx, ly, hy, dx, u, k1, k2, k3, k4) | inr u ↦ omega (arith, ints, em, rm, lx, hx, ly, hy, dx, u, k1, k2, k3, k4) ] ])
sign_by true true true false h m r x y d em rm lx hx ly hy dx w e1 e2 e3 e4 = refl
sign_by true true false true h m r x y d em rm lx hx ly hy dx w e1 e2 e3 e4 = refl
sign_by true true false false h m r x y d em rm lx hx ly hy dx w e1 e2 e3 e4 = absurd (let k1 = lt_true d (pos 0 -ℤ pos h) e1 in let k2 = lt_true d (pos h) e2 in let k3 = lt_false x y e3 in let k4 = leb-false h r e4 in elim w [ inl u ↦ omega (arith, ints, em, rm, lx, hx, ly, hy, dx, u, k1, k2, k3, k4) | inr v ↦ elim v [ inl u ↦ omega (arith, ints, em, rm, lx, hx, ly, hy, dx, u, k1, k2, k3, k4) | inr u ↦ omega (arith, ints, em, rm, lx, hx, ly, hy, dx, u, k1, k2, k3, k4) ] ])
sign_by true false true true h m r x y d em rm lx hx ly hy dx w e1 e2 e3 e4 = absurd (let k1 = lt_true d (pos 0 -ℤ pos h) e1 in let k2 = lt_false d (pos h) e2 in let k3 = lt_true x y e3 in let k4 = leb-true h r e4 in elim w [ inl u ↦ omega (arith, ints, em, rm, lx, hx, ly, hy, dx, u, k1, k2, k3, k4) | inr v ↦ elim v [ inl u ↦ omega (arith, ints, em, rm, lx, hx, ly, hy, dx, u, k1, k2, k3, k4) | inr u ↦ omega (arith, ints, em, rm, lx, hx, ly, hy, dx, u, k1, k2, k3, k4) ] ])
sign_by true false true false h m r x y d em rm lx hx ly hy dx w e1 e2 e3 e4 = refl
sign_by true false false true h m r x y d em rm lx hx ly hy dx w e1 e2 e3 e4 = refl
sign_by true false false false h m r x y d em rm lx hx ly hy dx w e1 e2 e3 e4 = absurd (let k1 = lt_true d (pos 0 -ℤ pos h) e1 in let k2 = lt_false d (pos h) e2 in let k3 = lt_false x y e3 in let k4 = leb-false h r e4 in elim w [ inl u ↦ omega (arith, ints, em, rm, lx, hx, ly, hy, dx, u, k1, k2, k3, k4) | inr v ↦ elim v [ inl u ↦ omega (arith, ints, em, rm, lx, hx, ly, hy, dx, u, k1, k2, k3, k4) | inr u ↦ omega (arith, ints, em, rm, lx, hx, ly, hy, dx, u, k1, k2, k3, k4) ] ])
sign_by false true true true h m r x y d em rm lx hx ly hy dx w e1 e2 e3 e4 = refl
sign_by false true true false h m r x y d em rm lx hx ly hy dx w e1 e2 e3 e4 = absurd (let k1 = lt_false d (pos 0 -ℤ pos h) e1 in let k2 = lt_true d (pos h) e2 in let k3 = lt_true x y e3 in let k4 = leb-false h r e4 in elim w [ inl u ↦ omega (arith, ints, em, rm, lx, hx, ly, hy, dx, u, k1, k2, k3, k4) | inr v ↦ elim v [ inl u ↦ omega (arith, ints, em, rm, lx, hx, ly, hy, dx, u, k1, k2, k3, k4) | inr u ↦ omega (arith, ints, em, rm, lx, hx, ly, hy, dx, u, k1, k2, k3, k4) ] ])
sign_by false true false true h m r x y d em rm lx hx ly hy dx w e1 e2 e3 e4 = absurd (let k1 = lt_false d (pos 0 -ℤ pos h) e1 in let k2 = lt_true d (pos h) e2 in let k3 = lt_false x y e3 in let k4 = leb-true h r e4 in elim w [ inl u ↦ omega (arith, ints, em, rm, lx, hx, ly, hy, dx, u, k1, k2, k3, k4) | inr v ↦ elim v [ inl u ↦ omega (arith, ints, em, rm, lx, hx, ly, hy, dx, u, k1, k2, k3, k4) | inr u ↦ omega (arith, ints, em, rm, lx, hx, ly, hy, dx, u, k1, k2, k3, k4) ] ])
sign_by false true false false h m r x y d em rm lx hx ly hy dx w e1 e2 e3 e4 = refl
sign_by false false true true h m r x y d em rm lx hx ly hy dx w e1 e2 e3 e4 = absurd (let k1 = lt_false d (pos 0 -ℤ pos h) e1 in let k2 = lt_false d (pos h) e2 in let k3 = lt_true x y e3 in let k4 = leb-true h r e4 in elim w [ inl u ↦ omega (arith, ints, em, rm, lx, hx, ly, hy, dx, u, k1, k2, k3, k4) | inr v ↦ elim v [ inl u ↦ omega (arith, ints, em, rm, lx, hx, ly, hy, dx, u, k1, k2, k3, k4) | inr u ↦ omega (arith, ints, em, rm, lx, hx, ly, hy, dx, u, k1, k2, k3, k4) ] ])
sign_by false false true false h m r x y d em rm lx hx ly hy dx w e1 e2 e3 e4 = refl
sign_by false false false true h m r x y d em rm lx hx ly hy dx w e1 e2 e3 e4 = refl
sign_by false false false false h m r x y d em rm lx hx ly hy dx w e1 e2 e3 e4 = absurd (let k1 = lt_false d (pos 0 -ℤ pos h) e1 in let k2 = lt_false d (pos h) e2 in let k3 = lt_false x y e3 in let k4 = leb-false h r e4 in elim w [ inl u ↦ omega (arith, ints, em, rm, lx, hx, ly, hy, dx, u, k1, k2, k3, k4) | inr v ↦ elim v [ inl u ↦ omega (arith, ints, em, rm, lx, hx, ly, hy, dx, u, k1, k2, k3, k4) | inr u ↦ omega (arith, ints, em, rm, lx, hx, ly, hy, dx, u, k1, k2, k3, k4) ] ])

signed_range : (h m a : ℕ) (p : Bool) → m ≡ 2 * h → a < m → nat_lt a h ≡ p → ((pos 0 -ℤ pos h) ≤ℤ (if p then pos a else (pos a -ℤ pos m))) × ((if p then pos a else (pos a -ℤ pos m)) <ℤ pos h)
signed_range h m a true e l t = let k = ltb-true a h t in (omega (arith, ints, e, l, k), omega (arith, ints, e, l, k))
signed_range h m a false e l t = let k = ltb-false a h t in (omega (arith, ints, e, l, k), omega (arith, ints, e, l, k))

-- the word of a difference: the difference itself, or it and the number of words
difference_up : (z : Size) (a b : ℕ) → a < modulus z → b < modulus z → a < b → difference_of z a b false + b ≡ a + modulus z
difference_up S8 a b h k l = omega (arith, h, k, l)
difference_up S16 a b h k l = omega (arith, h, k, l)
difference_up S32 a b h k l = omega (arith, h, k, l)
difference_up S64 a b h k l = omega (arith, h, k, l)

difference_down : (z : Size) (a b : ℕ) → a < modulus z → b < modulus z → b ≤ a → difference_of z a b false + b ≡ a
difference_down S8 a b h k l = omega (arith, h, k, l)
difference_down S16 a b h k l = omega (arith, h, k, l)
difference_down S32 a b h k l = omega (arith, h, k, l)
difference_down S64 a b h k l = omega (arith, h, k, l)

difference_by : (z : Size) (a b : ℕ) → a < modulus z → b < modulus z → (difference_of z a b false + b ≡ a) ⊎ (difference_of z a b false + b ≡ a + modulus z)
difference_by z a b h k = elim (cases_lt a b) [ inl l ↦ inr (difference_up z a b h k l) | inr l ↦ inl (difference_down z a b h k l) ]

difference_small : (z : Size) (a b : ℕ) → difference_of z a b false < modulus z
difference_small S8 a b = omega arith
difference_small S16 a b = omega arith
difference_small S32 a b = omega arith
difference_small S64 a b = omega arith

-- the four ways in which two words can have signs
stands_by : (p q : Bool) (h m a b r : ℕ) → m ≡ 2 * h → a < m → b < m → r < m → nat_lt a h ≡ p → nat_lt b h ≡ q → ((r + b ≡ a) ⊎ (r + b ≡ a + m)) → (d : ℤ) → d ≡ (if p then pos a else (pos a -ℤ pos m)) -ℤ (if q then pos b else (pos b -ℤ pos m))
    → (pos r ≡ d) ⊎ ((pos r ≡ d +ℤ pos m) ⊎ (pos r ≡ d -ℤ pos m))
stands_by true true h m a b r e l k j t u (inl w) d f = inl (omega (arith, ints, w, f))
stands_by true true h m a b r e l k j t u (inr w) d f = inr (inl (omega (arith, ints, w, f)))
stands_by false false h m a b r e l k j t u (inl w) d f = inl (omega (arith, ints, w, f))
stands_by false false h m a b r e l k j t u (inr w) d f = inr (inl (omega (arith, ints, w, f)))
stands_by true false h m a b r e l k j t u (inl w) d f = inr (inr (omega (arith, ints, w, f)))
stands_by true false h m a b r e l k j t u (inr w) d f = inl (omega (arith, ints, w, f))
stands_by false true h m a b r e l k j t u (inl w) d f = inr (inl (omega (arith, ints, w, f)))
stands_by false true h m a b r e l k j t u (inr w) d f = absurd (let x = ltb-false a h t in let y = ltb-true b h u in omega (arith, w, e, l, j, x, y))

double_half : (z : Size) → modulus z ≡ 2 * half z
double_half S8 = refl
double_half S16 = refl
double_half S32 = refl
double_half S64 = refl

less_nothing : (x y : ℤ) → (x -ℤ y) -ℤ pos 0 ≡ x -ℤ y
less_nothing x y = omega (arith, ints)

signed_less : (z : Size) (a b : ℕ) → a < modulus z → b < modulus z → differ (nat_le (half z) (difference_of z a b false)) (overflows z ((signed z a -ℤ signed z b) -ℤ pos 0)) ≡ int_lt (signed z a) (signed z b)
unfolding signed overflows
signed_less z a b h k =
    let x = if nat_lt a (half z) then pos a else (pos a -ℤ pos (modulus z)) in
    let y = if nat_lt b (half z) then pos b else (pos b -ℤ pos (modulus z)) in
    let rx = signed_range (half z) (modulus z) a (nat_lt a (half z)) (double_half z) h refl in
    let ry = signed_range (half z) (modulus z) b (nat_lt b (half z)) (double_half z) k refl in
    let same : (x -ℤ y) -ℤ pos 0 ≡ x -ℤ y = less_nothing x y in
    let w = stands_by (nat_lt a (half z)) (nat_lt b (half z)) (half z) (modulus z) a b (difference_of z a b false) (double_half z) h k (difference_small z a b) refl refl (difference_by z a b h k) ((x -ℤ y) -ℤ pos 0) same in
    sign_by _ _ _ _ (half z) (modulus z) (difference_of z a b false) x y ((x -ℤ y) -ℤ pos 0) (double_half z) (difference_small z a b) rx.0 rx.1 ry.0 ry.1 same w refl refl refl refl

not_int_less : (x y : ℤ) → not (int_lt x y) ≡ int_le y x
not_int_less x y = grind (arith, ints)

less_or : (x y : ℤ) (p q : Bool) → int_lt x y ≡ p → int_le x y ≡ q → (x ≡ y → ⊥) → p ≡ q
less_or x y true true e f n = refl
less_or x y false false e f n = refl
less_or x y true false e f n = absurd (let k = lt_true x y e in let l = le_false x y f in omega (arith, ints, k, l))
less_or x y false true e f n = absurd (let k = lt_false x y e in let l = le_true x y f in n (omega (arith, ints, k, l)))

or_equal : (x y : ℤ) (b : Bool) → (b ≡ true → x ≡ y) → (b ≡ false → x ≡ y → ⊥) → (b || int_lt x y) ≡ int_le x y
or_equal x y true t f = let e = t refl in grind (arith, ints, e)
or_equal x y false t f = less_or x y (int_lt x y) (int_le x y) refl refl (f refl)

not_int_le : (x y : ℤ) → not (int_le x y) ≡ int_lt y x
not_int_le x y = grind (arith, ints)

same_signed : (p q : Bool) (h m a b : ℕ) → m ≡ 2 * h → a < m → b < m → nat_lt a h ≡ p → nat_lt b h ≡ q → (if p then pos a else (pos a -ℤ pos m)) ≡ (if q then pos b else (pos b -ℤ pos m)) → a ≡ b
same_signed true true h m a b e l k t u s = omega (arith, ints, s)
same_signed false false h m a b e l k t u s = omega (arith, ints, s)
same_signed true false h m a b e l k t u s = absurd (omega (arith, ints, s, l, k, e))
same_signed false true h m a b e l k t u s = absurd (omega (arith, ints, s, l, k, e))

signed_apart : (z : Size) (a b : ℕ) → a < modulus z → b < modulus z → signed z a ≡ signed z b → a ≡ b
unfolding signed
signed_apart z a b h k e = same_signed (nat_lt a (half z)) (nat_lt b (half z)) (half z) (modulus z) a b (double_half z) h k refl refl e

signed_at_most : (z : Size) (a b : ℕ) → a < modulus z → b < modulus z → (nat_eq a b || int_lt (signed z a) (signed z b)) ≡ int_le (signed z a) (signed z b)
signed_at_most z a b h k = or_equal (signed z a) (signed z b) (nat_eq a b) (λ e. ap (signed z) (eqb-true a b e)) (λ e s. eqb-false a b e (signed_apart z a b h k s))

-- what the flags of a difference say is what the source compares
pub record Agrees (cmp : BinOp) (c : Cond) (z : Size) (a b : ℕ) : Type 0 where
  pub truth : Bool
  pub source : compared cmp z a b ≡ Some truth
  pub flags : IsCompared c
  pub says' : said c (overflows z ((signed z a -ℤ signed z b) -ℤ pos 0)) (borrow_of a b false) (nat_le (half z) (difference_of z a b false)) (nat_eq (difference_of z a b false) 0) ≡ truth

pub agrees : (cmp : BinOp) (c : Cond) (z : Size) (a b : ℕ) → cond_of cmp ≡ Some c → a < modulus z → b < modulus z → Agrees cmp c z a b
agrees o.Eq c z a b e h k = subst (λ x. Agrees o.Eq x z a b) (same_some cond.E c e) (record { truth = nat_eq a b; source = refl; flags = tt; says' = equal_is z a b h k })
agrees o.Ne c z a b e h k = subst (λ x. Agrees o.Ne x z a b) (same_some cond.Ne c e) (record { truth = not (nat_eq a b); source = refl; flags = tt; says' = ap not (equal_is z a b h k) })
agrees o.Lt c z a b e h k = subst (λ x. Agrees o.Lt x z a b) (same_some cond.B c e) (record { truth = nat_lt a b; source = refl; flags = tt; says' = less_is a b })
agrees o.Ge c z a b e h k = subst (λ x. Agrees o.Ge x z a b) (same_some cond.Ae c e) (record { truth = nat_le b a; source = refl; flags = tt; says' = ap not (less_is a b) ∙ not_less a b })
agrees o.Le c z a b e h k = subst (λ x. Agrees o.Le x z a b) (same_some cond.Be c e) (record { truth = nat_le a b; source = refl; flags = tt; says' = ap (λ x. x || nat_eq (difference_of z a b false) 0) (less_is a b) ∙ ap (λ x. nat_lt a b || x) (equal_is z a b h k) ∙ at_most_is a b })
agrees o.Gt c z a b e h k = subst (λ x. Agrees o.Gt x z a b) (same_some cond.A c e) (record { truth = nat_lt b a; source = refl; flags = tt; says' = ap not (ap (λ x. x || nat_eq (difference_of z a b false) 0) (less_is a b) ∙ ap (λ x. nat_lt a b || x) (equal_is z a b h k) ∙ at_most_is a b) ∙ not_at_most a b })
agrees o.LtS c z a b e h k = subst (λ x. Agrees o.LtS x z a b) (same_some cond.L c e) (record { truth = int_lt (signed z a) (signed z b); source = refl; flags = tt; says' = signed_less z a b h k })
agrees o.GeS c z a b e h k = subst (λ x. Agrees o.GeS x z a b) (same_some cond.Ge c e) (record { truth = int_le (signed z b) (signed z a); source = refl; flags = tt; says' = ap not (signed_less z a b h k) ∙ not_int_less (signed z a) (signed z b) })
agrees o.LeS c z a b e h k = subst (λ x. Agrees o.LeS x z a b) (same_some cond.Le c e) (record {
  truth = int_le (signed z a) (signed z b);
  source = refl;
  flags = tt;
  says' = ap (λ x. x || differ (nat_le (half z) (difference_of z a b false)) (overflows z ((signed z a -ℤ signed z b) -ℤ pos 0))) (equal_is z a b h k) ∙ ap (λ x. nat_eq a b || x) (signed_less z a b h k) ∙ signed_at_most z a b h k;
})
agrees o.GtS c z a b e h k = subst (λ x. Agrees o.GtS x z a b) (same_some cond.G c e) (record {
  truth = int_lt (signed z b) (signed z a);
  source = refl;
  flags = tt;
  says' = ap not (ap (λ x. x || differ (nat_le (half z) (difference_of z a b false)) (overflows z ((signed z a -ℤ signed z b) -ℤ pos 0))) (equal_is z a b h k) ∙ ap (λ x. nat_eq a b || x) (signed_less z a b h k) ∙ signed_at_most z a b h k) ∙ not_int_le (signed z a) (signed z b);
})
agrees _ c z a b e h k = absurd cc

-- ---- the operation, and the condition behind it
pub compare_by : (frame : Frame) (at : Span) (z : Size) (x y : Arg) (a b : ℕ) (σ : over.State) → value_of frame x z σ ≡ Some a → value_of frame y z σ ≡ Some b
    → step frame (plain at (action.Alu alu.Cmp z x y None)) σ ≡ Some (record { shown = shown x σ ++ (shown y σ ++ []); division = []; state = with_flags (plain at (action.Alu alu.Cmp z x y None)) (difference_answer z a b false).flags σ })
compare_by frame at z x y a b σ e f = rw (e, f) (rw (read_shown frame x z σ a e, read_shown frame y z σ b f) refl)

pub condition_says : (cmp : BinOp) (c : Cond) (at : Span) (z : Size) (x y : Arg) (a b : ℕ) (σ : over.State) → (g : Agrees cmp c z a b)
    → holds_in (condition.Cc c) (with_flags (plain at (action.Alu alu.Cmp z x y None)) (difference_answer z a b false).flags σ) ≡ Some g.truth
unfolding difference_answer flags_of
condition_says cmp c at z x y a b σ g = says c _ _ _ _ _ g.flags ∙ ap (λ t. Some t) g.says'

-- ---- the source's comparison
compared_words : (op : BinOp) (at : Span) (z : Size) (a b : ℕ) (c : Cond) → cond_of op ≡ Some c → on_words op at z a b ≡ defined at (option_map boolean (compared op z a b))
compared_words o.Eq at z a b c e = refl
compared_words o.Ne at z a b c e = refl
compared_words o.Lt at z a b c e = refl
compared_words o.Le at z a b c e = refl
compared_words o.Gt at z a b c e = refl
compared_words o.Ge at z a b c e = refl
compared_words o.LtS at z a b c e = refl
compared_words o.LeS at z a b c e = refl
compared_words o.GtS at z a b c e = refl
compared_words o.GeS at z a b c e = refl
compared_words _ at z a b c e = absurd cc

pub compared_values : (op : BinOp) (at : Span) (z : Size) (x y : Value) (a b : ℕ) → OfSize z x a → OfSize z y b → NotNumbers x y → combined op at x y ≡ on_words op at z a b
unfolding combined
compared_values op at z x y a b (sized c) (sized d) nn = combined_words op at z a b
compared_values op at z x y a b (sized c) (whole j) nn = refl
compared_values op at z x y a b (whole i) (sized d) nn = refl
compared_values op at z x y a b (whole i) (whole j) nn = absurd nn

compare_left : (op : BinOp) (c : Cond) (x y : Option Size) → cond_of op ≡ Some c → left_wanted op None x y ≡ option_or x y
compare_left o.Eq c x y e = refl
compare_left o.Ne c x y e = refl
compare_left o.Lt c x y e = refl
compare_left o.Le c x y e = refl
compare_left o.Gt c x y e = refl
compare_left o.Ge c x y e = refl
compare_left o.LtS c x y e = refl
compare_left o.LeS c x y e = refl
compare_left o.GtS c x y e = refl
compare_left o.GeS c x y e = refl
compare_left _ c x y e = absurd cc

compare_right : (op : BinOp) (c : Cond) (z : Size) (x : Value) → cond_of op ≡ Some c → (is_settled op x ≡ false) × (right_wanted op (Some z) ≡ Some z) × (is_shift op ≡ false)
compare_right o.Eq c z x e = (refl, refl, refl)
compare_right o.Ne c z x e = (refl, refl, refl)
compare_right o.Lt c z x e = (refl, refl, refl)
compare_right o.Le c z x e = (refl, refl, refl)
compare_right o.Gt c z x e = (refl, refl, refl)
compare_right o.Ge c z x e = (refl, refl, refl)
compare_right o.LtS c z x e = (refl, refl, refl)
compare_right o.LeS c z x e = (refl, refl, refl)
compare_right o.GtS c z x e = (refl, refl, refl)
compare_right o.GeS c z x e = (refl, refl, refl)
compare_right _ c z x e = absurd cc

right_compares : (op : BinOp) (c : Cond) (z : Size) (b : Expr) (at : Span) (s : State) (x : Value) → cond_of op ≡ Some c → with_right op (evaluated b) at (Some z) s x ≡ and_then (evaluated b (Some z) s) (λ y. combined op at x y)
unfolding binary
right_compares op c z b at s x e = let k = compare_right op c z x e in rw (k.0, k.1, k.2) refl

-- ---- a comparison that is denied
pub not_not : (b : Bool) → not (not b) ≡ b
not_not true = refl
not_not false = refl

of_one_back : (o : Option Bool) (k : Bool) → of_one not o ≡ Some k → o ≡ Some (not k)
of_one_back None k e = absurd cc
of_one_back (Some b) k e = ap (λ x. Some x) (sym (not_not b) ∙ ap not (same_some (not b) k e))

of_one_on : (o : Option Bool) (k : Bool) → o ≡ Some k → of_one not o ≡ Some (not k)
of_one_on o k e = ap (of_one not) e

opposite_says : (c : Cond) (st : machine.State) (k : Bool) → holds c st ≡ Some k → holds (opposite c) st ≡ Some (not k)
unfolding holds
opposite_says cond.O st k e = of_one_on _ k e
opposite_says cond.No st k e = of_one_back _ k e
opposite_says cond.B st k e = of_one_on _ k e
opposite_says cond.Ae st k e = of_one_back _ k e
opposite_says cond.E st k e = of_one_on _ k e
opposite_says cond.Ne st k e = of_one_back _ k e
opposite_says cond.Be st k e = of_one_on _ k e
opposite_says cond.A st k e = of_one_back _ k e
opposite_says cond.S st k e = of_one_on _ k e
opposite_says cond.Ns st k e = of_one_back _ k e
opposite_says cond.P st k e = of_one_on _ k e
opposite_says cond.Np st k e = of_one_back _ k e
opposite_says cond.L st k e = of_one_on _ k e
opposite_says cond.Ge st k e = of_one_back _ k e
opposite_says cond.Le st k e = of_one_on _ k e
opposite_says cond.G st k e = of_one_back _ k e

truth_back : (here : Span) (v : Value) (ns : List ℕ) (k : Bool) → truth here (inverted v) ≡ went ns k → (ns ≡ []) × (v ≡ boolean (not k))
unfolding inverted
truth_back here (word z a) ns k e = absurd cc
truth_back here (integer i) ns k e = absurd cc
truth_back here (boolean c) ns k e = let r = went_same [] ns (not c) k e in (sym r.0, ap boolean (sym (not_not c) ∙ ap not r.1))

evaluated_not : (a : Expr) (at : Span) (s : State) → evaluated (expr.Not a at) None s ≡ and_then (evaluated a (own_size a) s) (λ v. went [] (inverted v))
evaluated_not a at s = ap (λ x. evaluated x None s) (sym (expr.rolls-Not a at)) ∙ ap (λ m. m.run None s) (fold-roll-Expr _ _ _ _ _ expr_step ty_step access_step decl_step var_step (Expr-F.Not a at))

pub size_not : (a : Expr) (at : Span) → own_size (expr.Not a at) ≡ own_size a
size_not a at = ap own_size (sym (expr.rolls-Not a at)) ∙ ap (λ m. m.size) (fold-roll-Expr _ _ _ _ _ expr_step ty_step access_step decl_step var_step (Expr-F.Not a at))

no_size : (op : BinOp) (c : Cond) (x y : Option Size) → cond_of op ≡ Some c → size_of_operation op x y ≡ None
no_size o.Eq c x y e = refl
no_size o.Ne c x y e = refl
no_size o.Lt c x y e = refl
no_size o.Le c x y e = refl
no_size o.Gt c x y e = refl
no_size o.Ge c x y e = refl
no_size o.LtS c x y e = refl
no_size o.LeS c x y e = refl
no_size o.GtS c x y e = refl
no_size o.GeS c x y e = refl
no_size _ c x y e = absurd cc

pub compared_size : (op : BinOp) (c : Cond) (a b : Expr) (at : Span) → cond_of op ≡ Some c → own_size (expr.Bin op a b at) ≡ None
compared_size op c a b at e = size_bin op a b at ∙ no_size op c (own_size a) (own_size b) e

-- what is denied has the other answer
pub denied_bool : (here at : Span) (e : Expr) (s : State) (ns : List ℕ) (k : Bool) → own_size e ≡ None → bool_in here (expr.Not e at) s ≡ went ns k → bool_in here e s ≡ went ns (not k)
denied_bool here at e s ns k size run =
    let t = both_went (evaluated (expr.Not e at) None s) (truth here) ns k run in
    let e1 : and_then (evaluated e None s) (λ v. went [] (inverted v)) ≡ went t.first t.value = ap (λ w. and_then (evaluated e w s) (λ v. went [] (inverted v))) (sym size) ∙ sym (evaluated_not e at s) ∙ t.came in
    let u = both_went (evaluated e None s) (λ v. went [] (inverted v)) t.first t.value e1 in
    let w = went_same [] u.second (inverted u.value) t.value u.went_on in
    let q = truth_back here u.value t.second k (subst (λ x. truth here x ≡ went t.second k) (sym w.1) t.went_on) in
    let all : ns ≡ u.first ++ [] = t.numbers ∙ ap (λ l. l ++ t.second) (u.numbers ∙ ap (λ l. u.first ++ l) (sym w.0)) ∙ ap (λ l. (u.first ++ []) ++ l) q.0 ∙ append_nil (u.first ++ []) in
    ap (λ g. and_then g (truth here)) u.came ∙ ap (λ v. numbers_first u.first (truth here v)) q.1 ∙ ap (λ l. went l (not k)) (sym all)

module _ (frame : Frame) (home : Homes) (homing : IsHoming frame home) (s : State) (σ : over.State) (related : IsRelated home s σ) where
  -- what a condition owes: CMP goes through, the states are related behind it, the condition answers what the source's does, and the numbers are shown
  pub record Tests (o' : Operation) (c : Condition) (answer : Bool) (shown' : List ℕ) : Type 0 where
    pub done : Done
    pub steps : step frame o' σ ≡ Some done
    pub agrees' : IsRelated home s done.state
    pub says'' : holds_in c done.state ≡ Some answer
    pub shows : numbers_of done ≡ shown'
    pub vars : done.state.vars ≡ σ.vars
    pub cells : done.state.cells ≡ σ.cells
    pub memory : done.state.memory ≡ σ.memory

  answer_is : (at here : Span) (op : BinOp) (c : Cond) (z : Size) (a b : ℕ) (g : Agrees op c z a b) (ns : List ℕ) (v : Value) → cond_of op ≡ Some c → on_words op at z a b ≡ went ns v → (ns ≡ []) × (boolean g.truth ≡ v)
  answer_is at here op c z a b g ns v e h =
      let k = sym (compared_words op at z a b c e ∙ ap (λ t. defined at (option_map boolean t)) g.source) ∙ h in
      let r = went_same [] ns (boolean g.truth) v k in
      (sym r.0, r.1)

  pub compare_tests : (op : BinOp) (c : Cond) {z : Size} {a b : Expr} {x y : Arg} {p q : Leaks} (at here span' : Span) (ns : List ℕ) (k : Bool) → cond_of op ≡ Some c → option_or (own_size a) (own_size b) ≡ Some z
      → IsArg home z a x p → IsArg home z b y q → NotBothImm x y → bool_in here (expr.Bin op a b at) s ≡ went ns k
      → (first : List ℕ) × (second : List ℕ) × (ns ≡ first ++ second) × IsCounted p first × IsCounted q second × Tests (plain span' (action.Alu alu.Cmp z x y None)) (condition.Cc c) k (shown_of p first ++ shown_of q second)
  compare_tests op c {z} {a} {b} {x} {y} {p} {q} at here span' ns k e size ia ib nn run =
      let t = both_went (evaluated (expr.Bin op a b at) None s) (truth here) ns k run in
      let e1 = sym (evaluated_bin op a b at None s ∙ ap (λ w. run_binary op (evaluated a) (evaluated b) at w s) (compare_left op c (own_size a) (own_size b) e ∙ size)) ∙ t.came in
      let u = both_went (evaluated a (Some z) s) (with_right op (evaluated b) at (Some z) s) t.first t.value e1 in
      let w = both_went (evaluated b (Some z) s) (λ v. combined op at u.value v) u.second t.value (sym (right_compares op c z b at s u.value e) ∙ u.went_on) in
      let m = operand_read frame home homing s σ related ia u.first u.value u.came in
      let n = operand_read frame home homing s σ related ib w.first w.value w.came in
      let g = agrees op c z m.bits n.bits e m.small n.small in
      let v = answer_is at here op c z m.bits n.bits g w.second t.value e (sym (compared_values op at z u.value w.value m.bits n.bits (of_size z u.value m.bits m.word) (of_size z w.value n.bits n.word) (not_numbers x y u.value w.value m.form n.form nn)) ∙ w.went_on) in
      let f : went [] g.truth ≡ went t.second k = subst (λ r. truth here r ≡ went t.second k) (sym v.1) t.went_on in
      let r = went_same [] t.second g.truth k f in
      let τ = with_flags (plain span' (action.Alu alu.Cmp z x y None)) (difference_answer z m.bits n.bits false).flags σ in (
        u.first,
        w.first,
        t.numbers ∙ ap (λ l. l ++ t.second) (u.numbers ∙ ap (λ l. u.first ++ l) (w.numbers ∙ ap (λ l. w.first ++ l) v.0 ∙ append_nil w.first)) ∙ ap (λ l. (u.first ++ w.first) ++ l) (sym r.0) ∙ append_nil (u.first ++ w.first),
        m.counted,
        n.counted,
        record {
          done = record { shown = shown x σ ++ (shown y σ ++ []); division = []; state = τ };
          steps = compare_by frame span' z x y m.bits n.bits σ m.value n.value;
          agrees' = related_same frame home homing s σ τ related (λ i. ap (λ vs. vs i) (nones (None ∷ None ∷ None ∷ None ∷ None ∷ []) tt all_five (difference_answer z m.bits n.bits false).flags σ.vars)) refl refl;
          says'' = condition_says op c span' z x y m.bits n.bits σ g ∙ ap (λ l. Some l) r.1;
          shows = append_nil (shown x σ ++ (shown y σ ++ [])) ∙ ap (λ l. shown x σ ++ l) (append_nil (shown y σ)) ∙ ap (λ l. l ++ shown y σ) m.numbers ∙ ap (λ l. shown_of p u.first ++ l) n.numbers;
          vars = nones (None ∷ None ∷ None ∷ None ∷ None ∷ []) tt all_five (difference_answer z m.bits n.bits false).flags σ.vars;
          cells = refl;
          memory = refl;
        },
      )

  pub denied_tests : {o' : Operation} {c : Cond} {answer : Bool} {shown' : List ℕ} → Tests o' (condition.Cc c) answer shown' → Tests o' (condition.Cc (opposite c)) (not answer) shown'
  denied_tests {c = c} {answer = answer} t = record {
    done = t.done;
    steps = t.steps;
    agrees' = t.agrees';
    says'' = opposite_says c (record { regs = []; rip = 0; flags = t.done.state.flags }) answer t.says'';
    shows = t.shows;
    vars = t.vars;
    cells = t.cells;
    memory = t.memory;
  }
