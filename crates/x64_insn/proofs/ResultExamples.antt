-- Results and flags of closed operations, as a processor leaves them: OF, CF, SF, PF, ZF. Counts of ones do not compute here.
use Rattle.std.proofs.Common.{◌≡◌, [], ◌∷◌, ◌-◌, ◌^◌, refl}
use Rattle.std.specs.Prelude.{List, Some, None, true, false}
use Rattle.jz_words.specs.declared.size.Size.TheVariants.{S8, S16, S32, S64}
use Rattle.jz_words.specs.Sizes.{signed}
use Rattle.jz_words.specs.Words.{has_even_ones}
use Rattle.x64_insn.specs.declared.types.FlagVal.{FlagVal}
use Rattle.x64_insn.specs.declared.types.FlagVal.TheVariants.{True, False, Undefined}
use Rattle.x64_insn.specs.declared.types.One.TheVariants as one
use Rattle.x64_insn.specs.declared.types.Shift.TheVariants as shift
use Rattle.x64_insn.specs.Answers.{flag, overflows, flags_of, sum_answer, difference_answer, one_answer}
use Rattle.x64_insn.specs.Products.{no_flags, product_flags, product_answer, signed_product_answer, quotient_answer, signed_quotient_answer}
use Rattle.x64_insn.specs.Shifts.{shift_answer}

set : List FlagVal
set = True ∷ True ∷ True ∷ True ∷ True ∷ []

neg_of_the_least_word : one_answer one.Neg S8 0x80 set ≡ record { value = 0x80; flags = True ∷ True ∷ True ∷ flag (has_even_ones 0x80) ∷ False ∷ [] }
unfolding one_answer difference_answer flags_of overflows signed
neg_of_the_least_word = refl

-- 0x7f + 1, which keeps CF
inc_keeps_cf : one_answer one.Inc S8 0x7F set ≡ record { value = 0x80; flags = True ∷ True ∷ True ∷ flag (has_even_ones 0x80) ∷ False ∷ [] }
unfolding one_answer sum_answer flags_of overflows signed set
inc_keeps_cf = refl

shl_past_the_size : shift_answer shift.Shl S8 0x96 9 set ≡ record { value = 0; flags = Undefined ∷ Undefined ∷ False ∷ flag (has_even_ones 0) ∷ True ∷ [] }
unfolding shift_answer
shl_past_the_size = refl

sar_past_the_size : shift_answer shift.Sar S8 0x96 9 set ≡ record { value = 0xFF; flags = Undefined ∷ True ∷ True ∷ flag (has_even_ones 0xFF) ∷ False ∷ [] }
unfolding shift_answer signed
sar_past_the_size = refl

shr_by_one : shift_answer shift.Shr S16 0x8001 1 set ≡ record { value = 0x4000; flags = True ∷ True ∷ False ∷ flag (has_even_ones 0x4000) ∷ False ∷ [] }
unfolding shift_answer
shr_by_one = refl

-- a rotation by the size keeps the word, and writes CF
rol_by_the_size : shift_answer shift.Rol S8 0x96 8 set ≡ record { value = 0x96; flags = Undefined ∷ False ∷ True ∷ True ∷ True ∷ [] }
unfolding shift_answer set
rol_by_the_size = refl

ror_by_one : shift_answer shift.Ror S16 0x1235 1 set ≡ record { value = 0x891A; flags = True ∷ True ∷ True ∷ True ∷ True ∷ [] }
unfolding shift_answer set
ror_by_one = refl

mul_to_the_high_word : product_answer S8 0xFF 0xFF ≡ record { high = 0xFE; low = 1; flags = product_flags true }
unfolding product_answer
mul_to_the_high_word = refl

-- -128 * -1, which a word of 8 bits does not hold
imul_overflows : signed_product_answer S8 0x80 0xFF ≡ record { high = 0; low = 0x80; flags = product_flags true }
unfolding signed_product_answer overflows signed
imul_overflows = refl

-- -1 * 3
imul_with_its_sign : signed_product_answer S8 0xFF 3 ≡ record { high = 0xFF; low = 0xFD; flags = product_flags false }
unfolding signed_product_answer overflows signed
imul_with_its_sign = refl

-- the high word and the divisor are the same
div_too_large : quotient_answer S32 7 0 7 ≡ None
unfolding quotient_answer
div_too_large = refl

div_of_the_largest : quotient_answer S32 6 0xFFFFFFFF 7 ≡ Some (record { high = 6; low = 0xFFFFFFFF; flags = no_flags })
unfolding quotient_answer
div_of_the_largest = refl

-- -7 / 2
idiv_to_zero : signed_quotient_answer S32 0xFFFFFFFF 0xFFFFFFF9 2 ≡ Some (record { high = 0xFFFFFFFF; low = 0xFFFFFFFD; flags = no_flags })
unfolding signed_quotient_answer overflows signed
idiv_to_zero = refl

-- the least word divided by 1, and by -1
idiv_to_the_least_word : signed_quotient_answer S32 0xFFFFFFFF 0x80000000 1 ≡ Some (record { high = 0; low = 0x80000000; flags = no_flags })
unfolding signed_quotient_answer overflows signed
idiv_to_the_least_word = refl

idiv_of_the_least_word : signed_quotient_answer S32 0xFFFFFFFF 0x80000000 0xFFFFFFFF ≡ None
unfolding signed_quotient_answer overflows signed
idiv_of_the_least_word = refl

-- -2^127 / -1
idiv_of_the_least_number : signed_quotient_answer S64 (2 ^ 63) 0 (2 ^ 64 - 1) ≡ None
unfolding signed_quotient_answer overflows signed
idiv_of_the_least_number = refl
