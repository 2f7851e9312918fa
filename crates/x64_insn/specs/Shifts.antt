-- Shifts and rotations of words by a masked count (Intel SDM vol. 2, SAL/SAR/SHL/SHR and
-- RCL/RCR/ROL/ROR). What the manual leaves undefined is Undefined here.
use Rattle.std.specs.Prelude.{ℕ, ◌-◌, ◌%◌, min, Bool, true, false, not, ◌==◌, nat_le, if◌then◌else◌, List, ◌∷◌, slice_set}
use Rattle.jz_words.specs.declared.size.Size.{Size}
use Rattle.jz_words.specs.declared.size.Size.TheVariants.{S64}
use Rattle.jz_words.specs.Sizes.{bits_of}
use Rattle.jz_words.specs.Words.{has_bit, shl_of, shr_of, sar_of, rol_of, ror_of}
use Rattle.x64_insn.specs.declared.answer.Answer.{Answer}
use Rattle.x64_insn.specs.declared.types.FlagVal.{FlagVal}
use Rattle.x64_insn.specs.declared.types.FlagVal.TheVariants.{Undefined}
use Rattle.x64_insn.specs.declared.types.Shift.{Shift}
use Rattle.x64_insn.specs.declared.types.Shift.TheVariants as shift
use Rattle.x64_insn.specs.Answers.{flag, result_flags}

-- the count has six bits where the operand has 64, else five
abbrev pub masked : Size → ℕ → ℕ
masked S64 n = n % 64
masked other n = n % 32

-- the word shifted or rotated
abbrev pub shifted : Shift → Size → ℕ → ℕ → ℕ
shifted shift.Rol s a n = rol_of s a n
shifted shift.Ror s a n = ror_of s a n
shifted shift.Shl s a n = shl_of s a n
shifted shift.Shr s a n = shr_of a n
shifted shift.Sar s a n = sar_of s a n

-- the highest bit of a word
abbrev pub highest : Size → ℕ → Bool
highest s a = has_bit a (bits_of s - 1)

abbrev pub differ : Bool → Bool → Bool
differ true b = not b
differ false b = b

-- CF for a count that is not 0: the last bit that was shifted out, of SAR the sign where the count
-- is past the size; a rotation's last bit stands at the end where it came in
abbrev pub shift_carry : Shift → Size → ℕ → ℕ → FlagVal
shift_carry shift.Rol s a n = flag (has_bit (rol_of s a n) 0)
shift_carry shift.Ror s a n = flag (highest s (ror_of s a n))
shift_carry shift.Shl s a n =
    if nat_le (bits_of s) n then Undefined else flag (has_bit a (bits_of s - n))
shift_carry shift.Shr s a n = if nat_le (bits_of s) n then Undefined else flag (has_bit a (n - 1))
shift_carry shift.Sar s a n = flag (has_bit a (min (n - 1) (bits_of s - 1)))

-- OF for the count 1
abbrev pub overflow_by_one : Shift → Size → ℕ → Bool
overflow_by_one shift.Rol s a = differ (highest s (rol_of s a 1)) (has_bit (rol_of s a 1) 0)
overflow_by_one shift.Ror s a =
    differ (highest s (ror_of s a 1)) (has_bit (ror_of s a 1) (bits_of s - 2))
overflow_by_one shift.Shl s a = differ (highest s (shl_of s a 1)) (highest s a)
overflow_by_one shift.Shr s a = highest s a
overflow_by_one shift.Sar s a = false

-- OF, which other counts leave undefined
abbrev pub shift_overflow : Shift → Size → ℕ → ℕ → FlagVal
shift_overflow kind s a n = if n == 1 then flag (overflow_by_one kind s a) else Undefined

-- rotations keep SF, PF and ZF
abbrev pub keeps_result_flags : Shift → Bool
keeps_result_flags shift.Rol = true
keeps_result_flags shift.Ror = true
keeps_result_flags other = false

-- the flags for a count that is not 0
abbrev pub shift_flags : Shift → Size → ℕ → ℕ → List FlagVal → List FlagVal
shift_flags kind s a n old =
    if keeps_result_flags kind
    then slice_set (slice_set old 0 (shift_overflow kind s a n)) 1 (shift_carry kind s a n)
    else shift_overflow kind s a n ∷ shift_carry kind s a n ∷ result_flags s (shifted kind s a n)

-- what a shift by a masked count leaves: the count 0 changes nothing
unfoldable pub shift_answer : Shift → Size → ℕ → ℕ → List FlagVal → Answer
shift_answer kind s a n old =
    if n == 0 then record { value = a; flags = old }
    else record { value = shifted kind s a n; flags = shift_flags kind s a n old }
