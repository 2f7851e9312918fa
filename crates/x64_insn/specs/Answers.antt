-- The result of an operation on words, and the status flags that it leaves (Intel SDM vol. 1,
-- 3.4.3.1).
use Rattle.std.specs.Prelude.{ℕ, ◌-◌, bit_and, bit_or, bit_xor, Bool, false, not, ◌||◌, ◌==◌, slice_set, slice_index_or, nat_le, int_lt, if◌then◌else◌, List, [], ◌∷◌, ℤ, pos, ◌+ℤ◌, ◌-ℤ◌}
use Rattle.jz_words.specs.declared.size.Size.{Size}
use Rattle.jz_words.specs.Sizes.{half, modulus, signed}
use Rattle.jz_words.specs.Words.{carried, sum_of, carry_of, difference_of, borrow_of, has_even_ones}
use Rattle.x64_insn.specs.declared.answer.Answer.{Answer}
use Rattle.x64_insn.specs.declared.types.FlagVal.{FlagVal}
use Rattle.x64_insn.specs.declared.types.FlagVal.TheVariants.{True, False, Undefined}
use Rattle.x64_insn.specs.declared.types.Alu.{Alu}
use Rattle.x64_insn.specs.declared.types.Alu.TheVariants as alu
use Rattle.x64_insn.specs.declared.types.One.{One}
use Rattle.x64_insn.specs.declared.types.One.TheVariants as one

abbrev pub flag : Bool → FlagVal
flag b = if b then True else False

-- no signed word of the size is this number
unfoldable pub overflows : Size → ℤ → Bool
overflows s z = int_lt z (pos 0 -ℤ pos (half s)) || not (int_lt z (pos (half s)))

-- SF, PF, ZF of a result
abbrev pub result_flags : Size → ℕ → List FlagVal
result_flags s r = flag (nat_le (half s) r) ∷ flag (has_even_ones r) ∷ flag (r == 0) ∷ []

-- OF, CF, SF, PF, ZF of a result
unfoldable pub flags_of : Size → Bool → Bool → ℕ → List FlagVal
flags_of s overflow carry r = flag overflow ∷ flag carry ∷ result_flags s r

-- a + b + c
unfoldable pub sum_answer : Size → ℕ → ℕ → Bool → Answer
sum_answer s a b c =
    record {
      value = sum_of s a b c;
      flags =
          flags_of s (overflows s ((signed s a +ℤ signed s b) +ℤ pos (carried c)))
          (carry_of s a b c) (sum_of s a b c);
    }

-- a - b - c
unfoldable pub difference_answer : Size → ℕ → ℕ → Bool → Answer
difference_answer s a b c =
    record {
      value = difference_of s a b c;
      flags =
          flags_of s (overflows s ((signed s a -ℤ signed s b) -ℤ pos (carried c))) (borrow_of a b c)
          (difference_of s a b c);
    }

-- the bits that a and b have, and those that one of them has; neither overflow nor carry
unfoldable pub and_answer : Size → ℕ → ℕ → Answer
and_answer s a b = record { value = bit_and a b; flags = flags_of s false false (bit_and a b) }

unfoldable pub or_answer : Size → ℕ → ℕ → Answer
or_answer s a b = record { value = bit_or a b; flags = flags_of s false false (bit_or a b) }

-- the bits in which a and b differ; neither overflow nor carry
unfoldable pub xor_answer : Size → ℕ → ℕ → Answer
xor_answer s a b = record { value = bit_xor a b; flags = flags_of s false false (bit_xor a b) }

-- ---- operations on two words, with the carry that ADC and SBB read
abbrev pub alu_answer : Alu → Size → ℕ → ℕ → Bool → Answer
alu_answer alu.Add s a b c = sum_answer s a b false
alu_answer alu.Or s a b c = or_answer s a b
alu_answer alu.Adc s a b c = sum_answer s a b c
alu_answer alu.Sbb s a b c = difference_answer s a b c
alu_answer alu.And s a b c = and_answer s a b
alu_answer alu.Sub s a b c = difference_answer s a b false
alu_answer alu.Xor s a b c = xor_answer s a b
alu_answer alu.Cmp s a b c = difference_answer s a b false
alu_answer alu.Test s a b c = and_answer s a b

-- ---- operations on one word
-- an answer whose CF is that of before
abbrev pub with_carry_of : List FlagVal → Answer → Answer
with_carry_of old r = record r { flags = slice_set r.flags 1 (slice_index_or old 1 Undefined) }

-- NOT turns each bit over and keeps the flags; NEG is 0 - a, INC and DEC add and take away 1, and
-- keep CF
unfoldable pub one_answer : One → Size → ℕ → List FlagVal → Answer
one_answer one.Not s a old = record { value = modulus s - 1 - a; flags = old }
one_answer one.Neg s a old = difference_answer s 0 a false
one_answer one.Inc s a old = with_carry_of old (sum_answer s a 1 false)
one_answer one.Dec s a old = with_carry_of old (difference_answer s a 1 false)
