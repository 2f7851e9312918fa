-- Instructions: what their left sides get, of each one.
use Rattle.std.proofs.Common.{◌≡◌, ◌⊎◌, inl, ℕ, ◌<◌, ◌-◌, List, [], ◌∷◌, Option, Some, None, Bool, true, false, refl, sym, subst, arith, rules, if◌then◌else◌}
use Rattle.std.specs.Prelude.{◌==◌, nat_le, slice_set}
use Rattle.jz_tree.specs.Span.{Span}
use Rattle.x64_insn.specs.Size.{Size}
use Rattle.x64_insn.specs.Size.TheVariants.{S8, S16, S32, S64}
use Rattle.x64_insn.specs.Sizes.{bits_of}
use Rattle.x64_insn.specs.Words.{swapped_of, has_bit}
use Rattle.x64_insn.specs.Answers.{flag, result_flags, flags_of, sum_answer, difference_answer, and_answer, or_answer, xor_answer, alu_answer, one_answer}
use Rattle.x64_insn.specs.Shifts.{masked, shifted, shift_carry, overflow_by_one, shift_answer}
use Rattle.x64_insn.specs.Products.{no_flags, product_answer, low_product_answer}
use Rattle.x64_insn.specs.declared.answer.Answer.{Answer}
use Rattle.x64_insn.specs.declared.types.FlagVal.{FlagVal}
use Rattle.x64_insn.specs.declared.types.FlagVal.TheVariants.{Undefined}
use Rattle.x64_insn.specs.declared.types.Alu.{Alu}
use Rattle.x64_insn.specs.declared.types.Alu.TheVariants as alu
use Rattle.x64_insn.specs.declared.types.One.TheVariants as one_op
use Rattle.x64_insn.specs.declared.types.Shift.{Shift}
use Rattle.x64_insn.specs.declared.types.Shift.TheVariants as shift
use Rattle.jz_tree.specs.declared.intrinsic.Intrinsic.{Intrinsic}
use Rattle.jz_tree.specs.declared.intrinsic.Intrinsic.TheVariants as name
use Rattle.jz_meaning.specs.States.{Value, word, boolean}
use Rattle.jz_meaning.specs.Assignments.{Results}
use Rattle.jz_meaning.specs.Intrinsics.{flag_result, all_flags, first_two as two_of_flags, all_but_carry, before_value, alu_results, one_results, low_product_results, product_results, no_results, of_one, of_two, of_carry, of_count, intrinsic_results}
use Rattle.jz_facts.specs.Holding.{Gets, none, some_value, flags, five, first_two, and_values, instruction_gets}
use Rattle.jz_instructed.specs.Instructed.{Shape, a_flag, a_word, a_pinned, five_flags, flags_and_word, shapes_of, one_word, two_words, with_carry, with_count, form_of}

-- what a left side gets
abbrev pub IsGot : Gets → Shape → Option Value → Type 0
IsGot none a_flag o = (o ≡ None) ⊎ ((b : Bool) × (o ≡ Some (boolean b)))
IsGot some_value a_flag o = (b : Bool) × (o ≡ Some (boolean b))
IsGot some_value (a_word z) o = (n : ℕ) × (o ≡ Some (word z n))
IsGot some_value (a_pinned z) o = (n : ℕ) × (o ≡ Some (word z n))
IsGot g h o = ⊥

abbrev pub AreGot : List Gets → List Shape → Results → Type 0
AreGot [] [] [] = Unit {0}
AreGot (g ∷ gs) (h ∷ hs) (o ∷ os) = IsGot g h o × AreGot gs hs os
AreGot gs hs os = ⊥

abbrev IsKnown : FlagVal → Type 0
IsKnown f = (c : Bool) × (flag_result f ≡ Some (boolean c))

known : (b : Bool) → IsKnown (flag b)
known true = (true, refl)
known false = (false, refl)

-- five flags that are defined, and a word
all_five : (z s : Size) (o c : Bool) (r v : ℕ) → AreGot (and_values five 1) (flags_and_word z) (before_value (all_flags (flags_of s o c r)) z v)
unfolding flags_of
all_five z s o c r v = (known o, (known c, (known _, (known _, (known _, ((v, refl), tt))))))

only_five : (s : Size) (o c : Bool) (r : ℕ) → AreGot five five_flags (all_flags (flags_of s o c r))
unfolding flags_of
only_five s o c r = (known o, (known c, (known _, (known _, (known _, tt)))))

alu_got : (op : Alu) (z : Size) (a b : ℕ) (c : Bool) → AreGot (and_values five 1) (flags_and_word z) (alu_results op z a b c)
unfolding sum_answer difference_answer and_answer or_answer xor_answer
alu_got alu.Add z a b c = all_five z z _ _ _ _
alu_got alu.Or z a b c = all_five z z _ _ _ _
alu_got alu.Adc z a b c = all_five z z _ _ _ _
alu_got alu.Sbb z a b c = all_five z z _ _ _ _
alu_got alu.And z a b c = all_five z z _ _ _ _
alu_got alu.Sub z a b c = all_five z z _ _ _ _
alu_got alu.Xor z a b c = all_five z z _ _ _ _
alu_got alu.Cmp z a b c = all_five z z _ _ _ _
alu_got alu.Test z a b c = all_five z z _ _ _ _

cmp_got : (z : Size) (a b : ℕ) → AreGot five five_flags (all_flags (alu_answer alu.Cmp z a b false).flags)
unfolding difference_answer
cmp_got z a b = only_five z _ _ _

test_got : (z : Size) (a b : ℕ) → AreGot five five_flags (all_flags (alu_answer alu.Test z a b false).flags)
unfolding and_answer
test_got z a b = only_five z _ _ _

neg_got : (z : Size) (a : ℕ) → AreGot (and_values five 1) (flags_and_word z) (one_results all_flags one_op.Neg z a)
unfolding one_answer difference_answer
neg_got z a = all_five z z _ _ _ _

inc_got : (z : Size) (a : ℕ) → AreGot five (shapes_of name.Inc z) (one_results all_but_carry one_op.Inc z a)
unfolding one_answer sum_answer flags_of
inc_got z a = (known _, (known _, (known _, (known _, ((_, refl), tt)))))

dec_got : (z : Size) (a : ℕ) → AreGot five (shapes_of name.Dec z) (one_results all_but_carry one_op.Dec z a)
unfolding one_answer difference_answer flags_of
dec_got z a = (known _, (known _, (known _, (known _, ((_, refl), tt)))))

imul_got : (z : Size) (a b : ℕ) → AreGot (and_values (flags true true false false false) 1) (flags_and_word z) (low_product_results z a b)
unfolding low_product_answer
imul_got z a b = (known _, (known _, (inl refl, (inl refl, (inl refl, ((_, refl), tt))))))

mul_got : (z : Size) (a b : ℕ) → AreGot (and_values (flags true true false false false) 2) (shapes_of name.Mul z) (product_results z a b)
unfolding product_answer
mul_got z a b = (known _, (known _, (inl refl, (inl refl, (inl refl, ((_, refl), ((_, refl), tt)))))))

-- ---- shifts: the flags of a count that is written, and those of one at run time

masked_small : (z : Size) (n : ℕ) → n < bits_of z → masked z n ≡ n
masked_small S8 n l = omega (arith, l)
masked_small S16 n l = omega (arith, l)
masked_small S32 n l = omega (arith, l)
masked_small S64 n l = omega (arith, l)

not_past : (m n : ℕ) → n < m → nat_le m n ≡ false
not_past m n l = grind (arith, rules, l)

-- CF is defined
carry_known : (kind : Shift) (z : Size) (a n : ℕ) → n < bits_of z → IsKnown (shift_carry kind z a n)
carry_known shift.Rol z a n l = known _
carry_known shift.Ror z a n l = known _
carry_known shift.Sar z a n l = known _
carry_known shift.Shl z a n l = subst (λ c. IsKnown (if c then Undefined else flag (has_bit a (bits_of z - n)))) (sym (not_past (bits_of z) n l)) (known (has_bit a (bits_of z - n)))
carry_known shift.Shr z a n l = subst (λ c. IsKnown (if c then Undefined else flag (has_bit a (n - 1)))) (sym (not_past (bits_of z) n l)) (known (has_bit a (n - 1)))

-- what a count that is 0 leaves, or another single
abbrev After : Bool → ℕ → ℕ → List FlagVal → Answer
After nil a v fs = if nil then record { value = a; flags = no_flags } else record { value = v; flags = fs }

abbrev Overflow : Bool → Bool → FlagVal
Overflow single o = if single then flag o else Undefined

abbrev Gots : Bool → Bool → List Gets
Gots nil single = if nil then flags false false false false false else flags single true true true true

-- of five flags OF is defined for a count of 1 alone
five_shifted : (z : Size) (a v : ℕ) (nil single o : Bool) (cf : FlagVal) → IsKnown cf → AreGot (and_values (Gots nil single) 1) (flags_and_word z) (before_value (all_flags (After nil a v (Overflow single o ∷ cf ∷ result_flags z v)).flags) z (After nil a v (Overflow single o ∷ cf ∷ result_flags z v)).value)
five_shifted z a v true single o cf k = (inl refl, (inl refl, (inl refl, (inl refl, (inl refl, ((_, refl), tt))))))
five_shifted z a v false true o cf k = (known o, (k, (known _, (known _, (known _, ((_, refl), tt))))))
five_shifted z a v false false o cf k = (inl refl, (k, (known _, (known _, (known _, ((_, refl), tt))))))

two_shifted : (z : Size) (a v : ℕ) (nil single o : Bool) (cf : FlagVal) → IsKnown cf → AreGot (and_values (first_two (Gots nil single)) 1) (a_flag ∷ a_flag ∷ a_word z ∷ []) (before_value (two_of_flags (After nil a v (slice_set (slice_set no_flags 0 (Overflow single o)) 1 cf)).flags) z (After nil a v (slice_set (slice_set no_flags 0 (Overflow single o)) 1 cf)).value)
two_shifted z a v true single o cf k = (inl refl, (inl refl, ((_, refl), tt)))
two_shifted z a v false true o cf k = (known o, (k, ((_, refl), tt)))
two_shifted z a v false false o cf k = (inl refl, (k, ((_, refl), tt)))

-- the results of a count that is written, and of one at run time
abbrev pub WithNumber : (List FlagVal → Results) → Shift → Size → ℕ → ℕ → Results
WithNumber keep kind z a m = let r = shift_answer kind z a m no_flags in before_value (keep r.flags) z r.value

abbrev pub WithMask : (List FlagVal → Results) → Shift → Size → ℕ → ℕ → Results
WithMask keep kind z a m = before_value (keep no_flags) z (shifted kind z a m)

pub record WithCount (i : Intrinsic) (at : Span) (z : Size) : Type 0 where
  pub keep : List FlagVal → Results
  pub shift_of : Shift
  pub is : intrinsic_results i at z ≡ of_count keep shift_of at z
  pub by_number : (a n : ℕ) → n < bits_of z → AreGot (instruction_gets i (Some n)) (shapes_of i z) (WithNumber keep shift_of z a (masked z n))
  pub by_mask : (a n : ℕ) → AreGot (instruction_gets i None) (shapes_of i z) (WithMask keep shift_of z a (masked z n))

shl_number : (z : Size) (a n : ℕ) → n < bits_of z → AreGot (instruction_gets name.Shl (Some n)) (flags_and_word z) (WithNumber all_flags shift.Shl z a (masked z n))
unfolding shift_answer
shl_number z a n l = subst (λ m. AreGot (instruction_gets name.Shl (Some n)) (flags_and_word z) (WithNumber all_flags shift.Shl z a m)) (sym (masked_small z n l)) (five_shifted z a (shifted shift.Shl z a n) (n == 0) (n == 1) (overflow_by_one shift.Shl z a) (shift_carry shift.Shl z a n) (carry_known shift.Shl z a n l))

shr_number : (z : Size) (a n : ℕ) → n < bits_of z → AreGot (instruction_gets name.Shr (Some n)) (flags_and_word z) (WithNumber all_flags shift.Shr z a (masked z n))
unfolding shift_answer
shr_number z a n l = subst (λ m. AreGot (instruction_gets name.Shr (Some n)) (flags_and_word z) (WithNumber all_flags shift.Shr z a m)) (sym (masked_small z n l)) (five_shifted z a (shifted shift.Shr z a n) (n == 0) (n == 1) (overflow_by_one shift.Shr z a) (shift_carry shift.Shr z a n) (carry_known shift.Shr z a n l))

sar_number : (z : Size) (a n : ℕ) → n < bits_of z → AreGot (instruction_gets name.Sar (Some n)) (flags_and_word z) (WithNumber all_flags shift.Sar z a (masked z n))
unfolding shift_answer
sar_number z a n l = subst (λ m. AreGot (instruction_gets name.Sar (Some n)) (flags_and_word z) (WithNumber all_flags shift.Sar z a m)) (sym (masked_small z n l)) (five_shifted z a (shifted shift.Sar z a n) (n == 0) (n == 1) (overflow_by_one shift.Sar z a) (shift_carry shift.Sar z a n) (carry_known shift.Sar z a n l))

rol_number : (z : Size) (a n : ℕ) → n < bits_of z → AreGot (instruction_gets name.Rol (Some n)) (shapes_of name.Rol z) (WithNumber two_of_flags shift.Rol z a (masked z n))
unfolding shift_answer
rol_number z a n l = subst (λ m. AreGot (instruction_gets name.Rol (Some n)) (shapes_of name.Rol z) (WithNumber two_of_flags shift.Rol z a m)) (sym (masked_small z n l)) (two_shifted z a (shifted shift.Rol z a n) (n == 0) (n == 1) (overflow_by_one shift.Rol z a) (shift_carry shift.Rol z a n) (carry_known shift.Rol z a n l))

ror_number : (z : Size) (a n : ℕ) → n < bits_of z → AreGot (instruction_gets name.Ror (Some n)) (shapes_of name.Ror z) (WithNumber two_of_flags shift.Ror z a (masked z n))
unfolding shift_answer
ror_number z a n l = subst (λ m. AreGot (instruction_gets name.Ror (Some n)) (shapes_of name.Ror z) (WithNumber two_of_flags shift.Ror z a m)) (sym (masked_small z n l)) (two_shifted z a (shifted shift.Ror z a n) (n == 0) (n == 1) (overflow_by_one shift.Ror z a) (shift_carry shift.Ror z a n) (carry_known shift.Ror z a n l))

-- no flag of a count at run time
five_masked : (z : Size) (v : ℕ) → AreGot (and_values (flags false false false false false) 1) (flags_and_word z) (before_value (all_flags no_flags) z v)
five_masked z v = (inl refl, (inl refl, (inl refl, (inl refl, (inl refl, ((_, refl), tt))))))

two_masked : (z : Size) (v : ℕ) → AreGot (and_values (first_two (flags false false false false false)) 1) (a_flag ∷ a_flag ∷ a_word z ∷ []) (before_value (two_of_flags no_flags) z v)
two_masked z v = (inl refl, (inl refl, ((_, refl), tt)))

-- ---- the rows by their operands

pub record TwoWords (i : Intrinsic) (n : Option ℕ) (at : Span) (z : Size) : Type 0 where
  pub f : ℕ → ℕ → Results
  pub is : intrinsic_results i at z ≡ of_two f at z
  pub got : (x y : ℕ) → AreGot (instruction_gets i n) (shapes_of i z) (f x y)

pub record OneWord (i : Intrinsic) (n : Option ℕ) (at : Span) (z : Size) : Type 0 where
  pub f : ℕ → Results
  pub is : intrinsic_results i at z ≡ of_one f at z
  pub got : (x : ℕ) → AreGot (instruction_gets i n) (shapes_of i z) (f x)

pub record WithCarry (i : Intrinsic) (n : Option ℕ) (at : Span) (z : Size) : Type 0 where
  pub f : ℕ → ℕ → Bool → Results
  pub is : intrinsic_results i at z ≡ of_carry f at z
  pub got : (x y : ℕ) (c : Bool) → AreGot (instruction_gets i n) (shapes_of i z) (f x y c)

pub data Row (i : Intrinsic) : Type 0 where
  by_one : form_of i ≡ one_word → ((n : Option ℕ) (at : Span) (z : Size) → OneWord i n at z) → Row i
  by_two : form_of i ≡ two_words → ((n : Option ℕ) (at : Span) (z : Size) → TwoWords i n at z) → Row i
  by_carry : form_of i ≡ with_carry → ((n : Option ℕ) (at : Span) (z : Size) → WithCarry i n at z) → Row i
  by_count : form_of i ≡ with_count → ((at : Span) (z : Size) → WithCount i at z) → Row i
  by_division : i ≡ name.Div → Row i
  by_address : i ≡ name.Lea → Row i
  by_condition : i ≡ name.Setcc → Row i

pub row_of : (i : Intrinsic) → Row i
row_of name.Add = by_two refl (λ n at z. record { f = λ a b. alu_results alu.Add z a b false; is = refl; got = λ x y. alu_got alu.Add z x y false })
row_of name.Sub = by_two refl (λ n at z. record { f = λ a b. alu_results alu.Sub z a b false; is = refl; got = λ x y. alu_got alu.Sub z x y false })
row_of name.And = by_two refl (λ n at z. record { f = λ a b. alu_results alu.And z a b false; is = refl; got = λ x y. alu_got alu.And z x y false })
row_of name.Or = by_two refl (λ n at z. record { f = λ a b. alu_results alu.Or z a b false; is = refl; got = λ x y. alu_got alu.Or z x y false })
row_of name.Xor = by_two refl (λ n at z. record { f = λ a b. alu_results alu.Xor z a b false; is = refl; got = λ x y. alu_got alu.Xor z x y false })
row_of name.Cmp = by_two refl (λ n at z. record { f = λ a b. all_flags (alu_answer alu.Cmp z a b false).flags; is = refl; got = cmp_got z })
row_of name.Test = by_two refl (λ n at z. record { f = λ a b. all_flags (alu_answer alu.Test z a b false).flags; is = refl; got = test_got z })
row_of name.Imul = by_two refl (λ n at z. record { f = low_product_results z; is = refl; got = imul_got z })
row_of name.Mul = by_two refl (λ n at z. record { f = product_results z; is = refl; got = mul_got z })
row_of name.Adc = by_carry refl (λ n at z. record { f = alu_results alu.Adc z; is = refl; got = λ x y c. alu_got alu.Adc z x y c })
row_of name.Sbb = by_carry refl (λ n at z. record { f = alu_results alu.Sbb z; is = refl; got = λ x y c. alu_got alu.Sbb z x y c })
row_of name.Neg = by_one refl (λ n at z. record { f = one_results all_flags one_op.Neg z; is = refl; got = neg_got z })
row_of name.Inc = by_one refl (λ n at z. record { f = one_results all_but_carry one_op.Inc z; is = refl; got = inc_got z })
row_of name.Dec = by_one refl (λ n at z. record { f = one_results all_but_carry one_op.Dec z; is = refl; got = dec_got z })
row_of name.Not = by_one refl (λ n at z. record { f = one_results no_results one_op.Not z; is = refl; got = λ x. ((_, refl), tt) })
row_of name.Bswap = by_one refl (λ n at z. record { f = λ a. before_value [] z (swapped_of z a); is = refl; got = λ x. ((_, refl), tt) })
row_of name.Shl = by_count refl (λ at z. record { keep = all_flags; shift_of = shift.Shl; is = refl; by_number = shl_number z; by_mask = λ a n. five_masked z _ })
row_of name.Shr = by_count refl (λ at z. record { keep = all_flags; shift_of = shift.Shr; is = refl; by_number = shr_number z; by_mask = λ a n. five_masked z _ })
row_of name.Sar = by_count refl (λ at z. record { keep = all_flags; shift_of = shift.Sar; is = refl; by_number = sar_number z; by_mask = λ a n. five_masked z _ })
row_of name.Rol = by_count refl (λ at z. record { keep = two_of_flags; shift_of = shift.Rol; is = refl; by_number = rol_number z; by_mask = λ a n. two_masked z _ })
row_of name.Ror = by_count refl (λ at z. record { keep = two_of_flags; shift_of = shift.Ror; is = refl; by_number = ror_number z; by_mask = λ a n. two_masked z _ })
row_of name.Div = by_division refl
row_of name.Lea = by_address refl
row_of name.Setcc = by_condition refl

-- ---- the order of what left sides get: flags, and then one word or two in fixed registers

abbrev pub ArePinned : List Shape → Type 0
ArePinned [] = Unit {0}
ArePinned (a_pinned z ∷ hs) = ArePinned hs
ArePinned (h ∷ hs) = ⊥

abbrev pub IsEnded : Size → List Shape → Type 0
IsEnded z [] = Unit {0}
IsEnded z (a_flag ∷ hs) = IsEnded z hs
IsEnded z (a_word y ∷ hs) = (y ≡ z) × (hs ≡ [])
IsEnded z (a_pinned y ∷ hs) = ArePinned hs

pub ended : (i : Intrinsic) (z : Size) → IsEnded z (shapes_of i z)
ended name.Add z = (refl, refl)
ended name.Sub z = (refl, refl)
ended name.And z = (refl, refl)
ended name.Or z = (refl, refl)
ended name.Xor z = (refl, refl)
ended name.Adc z = (refl, refl)
ended name.Sbb z = (refl, refl)
ended name.Neg z = (refl, refl)
ended name.Inc z = (refl, refl)
ended name.Dec z = (refl, refl)
ended name.Not z = (refl, refl)
ended name.Bswap z = (refl, refl)
ended name.Lea z = (refl, refl)
ended name.Cmp z = tt
ended name.Test z = tt
ended name.Shl z = (refl, refl)
ended name.Shr z = (refl, refl)
ended name.Sar z = (refl, refl)
ended name.Rol z = (refl, refl)
ended name.Ror z = (refl, refl)
ended name.Imul z = (refl, refl)
ended name.Mul z = tt
ended name.Div z = tt
ended name.Setcc z = (refl, refl)
