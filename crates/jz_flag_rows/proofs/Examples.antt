-- Actions of closed operands, worked by hand from the pattern table.
use Rattle.std.proofs.Common.{◌≡◌, true, false, [], ◌∷◌, Some, None, refl, pos}
use Rattle.jz_words.specs.declared.size.Size.TheVariants.{S32, S64}
use Rattle.x64_insn.specs.declared.types.Alu.TheVariants as alu
use Rattle.x64_insn.specs.declared.types.Place.TheVariants as place
use Rattle.x64_insn.specs.declared.types.Reg.TheVariants as reg
use Rattle.x64_insn.specs.declared.types.Shift.TheVariants as shift
use Rattle.x64_insn.specs.declared.types.Wide.TheVariants as wide
use Rattle.jz_operations.specs.declared.operation.Arg.TheVariants as arg
use Rattle.jz_operations.specs.declared.operation.Action.TheVariants as action
use Rattle.jz_operations.specs.Reading.{needs_of}
use Rattle.jz_change.specs.declared.change.Number.TheVariants.{Nth}
use Rattle.jz_change.specs.declared.change.Numbers.TheVariants.{These}
use Rattle.jz_homes.specs.Operands.{silent, told}
use Rattle.jz_row_operations.specs.Codes.{no_flag}
use Rattle.jz_row_operations.specs.Table.{two_code}
use Rattle.jz_flag_rows.specs.Wide.{is_apart, wide_code, wide_shown, divide_code, divide_shown, divide_two_code, divide_two_shown}
use Rattle.jz_flag_rows.specs.Instructions.{swap_code, count_code}

-- ---- `h, l = a * b`
-- the first operand is copied to RAX, which is the low word's
apart : wide_code S64 (Some (record { variable = 8; span = record { line = 5; col = 3 } })) (Some (record { variable = 7; span = record { line = 5; col = 6 } })) (arg.Var 0) (arg.Var 1) ≡ Some (action.Mov S64 (arg.At reg.Rax (Some (record { variable = 7; span = record { line = 5; col = 6 } }))) (arg.Var 0) ∷ action.Wide wide.Mul S64 (Some (record { variable = 7; span = record { line = 5; col = 6 } })) (Some (record { variable = 8; span = record { line = 5; col = 3 } })) (arg.Var 1) ∷ [])
apart = refl

-- the low word is the first operand: no copy
first_is_low : wide_code S64 (Some (record { variable = 8; span = record { line = 5; col = 3 } })) (Some (record { variable = 7; span = record { line = 5; col = 6 } })) (arg.Var 7) (arg.Var 1) ≡ Some (action.Wide wide.Mul S64 (Some (record { variable = 7; span = record { line = 5; col = 6 } })) (Some (record { variable = 8; span = record { line = 5; col = 3 } })) (arg.Var 1) ∷ [])
first_is_low = refl

-- it is the second one: they are swapped
second_is_low : wide_code S32 (Some (record { variable = 8; span = record { line = 5; col = 3 } })) (Some (record { variable = 7; span = record { line = 5; col = 6 } })) (arg.Var 0) (arg.Var 7) ≡ Some (action.Wide wide.Mul S32 (Some (record { variable = 7; span = record { line = 5; col = 6 } })) (Some (record { variable = 8; span = record { line = 5; col = 3 } })) (arg.Var 0) ∷ [])
second_is_low = refl

-- but not with a number, and then nothing is left: the low word stands in the second operand
number_first : wide_code S64 (Some (record { variable = 8; span = record { line = 5; col = 3 } })) (Some (record { variable = 7; span = record { line = 5; col = 6 } })) (arg.Imm (pos 3)) (arg.Var 7) ≡ None
number_first = refl

number_copied : wide_code S64 (Some (record { variable = 8; span = record { line = 5; col = 3 } })) (Some (record { variable = 7; span = record { line = 5; col = 6 } })) (arg.Imm (pos 3)) (arg.Var 1) ≡ Some (action.Mov S64 (arg.At reg.Rax (Some (record { variable = 7; span = record { line = 5; col = 6 } }))) (arg.Imm (pos 3)) ∷ action.Wide wide.Mul S64 (Some (record { variable = 7; span = record { line = 5; col = 6 } })) (Some (record { variable = 8; span = record { line = 5; col = 3 } })) (arg.Var 1) ∷ [])
number_copied = refl

low_in_address : wide_code S64 (Some (record { variable = 8; span = record { line = 5; col = 3 } })) (Some (record { variable = 7; span = record { line = 5; col = 6 } })) (arg.Var 0) (arg.Mem (record { base = Some 7; index = None; disp = pos 8 })) ≡ None
low_in_address = refl

high_in_address : wide_code S64 (Some (record { variable = 8; span = record { line = 5; col = 3 } })) (Some (record { variable = 7; span = record { line = 5; col = 6 } })) (arg.Var 0) (arg.Mem (record { base = Some 8; index = None; disp = pos 8 })) ≡ Some (action.Mov S64 (arg.At reg.Rax (Some (record { variable = 7; span = record { line = 5; col = 6 } }))) (arg.Var 0) ∷ action.Wide wide.Mul S64 (Some (record { variable = 7; span = record { line = 5; col = 6 } })) (Some (record { variable = 8; span = record { line = 5; col = 3 } })) (arg.Mem (record { base = Some 8; index = None; disp = pos 8 })) ∷ [])
high_in_address = refl

-- `_` is written besides
no_low : wide_code S64 (Some (record { variable = 8; span = record { line = 5; col = 3 } })) None (arg.Var 0) (arg.Var 1) ≡ Some (action.Mov S64 (arg.At reg.Rax None) (arg.Var 0) ∷ action.Wide wide.Mul S64 None (Some (record { variable = 8; span = record { line = 5; col = 3 } })) (arg.Var 1) ∷ [])
no_low = refl

no_high : wide_code S64 None (Some (record { variable = 7; span = record { line = 5; col = 6 } })) (arg.Var 0) (arg.Var 1) ≡ Some (action.Mov S64 (arg.At reg.Rax (Some (record { variable = 7; span = record { line = 5; col = 6 } }))) (arg.Var 0) ∷ action.Wide wide.Mul S64 (Some (record { variable = 7; span = record { line = 5; col = 6 } })) None (arg.Var 1) ∷ [])
no_high = refl

-- one variable is asked for RDX and for RAX
one_variable : needs_of (record { span = record { line = 5; col = 1 }; action = action.Wide wide.Mul S64 (Some (record { variable = 7; span = record { line = 5; col = 6 } })) (Some (record { variable = 7; span = record { line = 5; col = 3 } })) (arg.Var 1); flags = no_flag })
    ≡ record { variable = 7; place = place.Reg reg.Rax; span = record { line = 5; col = 6 } } ∷ record { variable = 7; place = place.Reg reg.Rax; span = record { line = 5; col = 6 } } ∷ record { variable = 7; place = place.Reg reg.Rdx; span = record { line = 5; col = 3 } } ∷ []
one_variable = refl

-- an access of the second operand is the second number
both_accesses : wide_shown (Some (record { variable = 7; span = record { line = 5; col = 6 } })) (arg.Mem (record { base = Some 0; index = None; disp = pos 8 })) (arg.Mem (record { base = Some 1; index = None; disp = pos 8 })) told told ≡ These (Nth 0 ∷ []) ∷ These (Nth 1 ∷ []) ∷ []
both_accesses = refl

swapped_access : wide_shown (Some (record { variable = 7; span = record { line = 5; col = 6 } })) (arg.Mem (record { base = Some 0; index = None; disp = pos 8 })) (arg.Var 7) told silent ≡ These (Nth 0 ∷ []) ∷ []
swapped_access = refl

-- ---- quotients and remainders
unsigned_quotient : divide_code wide.Div S64 (Some (record { variable = 7; span = record { line = 5; col = 6 } })) None (arg.Var 0) (arg.Var 1) ≡ action.Mov S64 (arg.At reg.Rax (Some (record { variable = 7; span = record { line = 5; col = 6 } }))) (arg.Var 0) ∷ action.Mov S64 (arg.At reg.Rdx None) (arg.Imm (pos 0)) ∷ action.Wide wide.Div S64 (Some (record { variable = 7; span = record { line = 5; col = 6 } })) None (arg.Var 1) ∷ []
unsigned_quotient = refl

unsigned_remainder : divide_code wide.Div S32 None (Some (record { variable = 8; span = record { line = 5; col = 3 } })) (arg.Var 0) (arg.Var 1) ≡ action.Mov S32 (arg.At reg.Rax None) (arg.Var 0) ∷ action.Mov S32 (arg.At reg.Rdx (Some (record { variable = 8; span = record { line = 5; col = 3 } }))) (arg.Imm (pos 0)) ∷ action.Wide wide.Div S32 None (Some (record { variable = 8; span = record { line = 5; col = 3 } })) (arg.Var 1) ∷ []
unsigned_remainder = refl

signed_quotient : divide_code wide.Idiv S64 (Some (record { variable = 7; span = record { line = 5; col = 6 } })) None (arg.Var 0) (arg.Var 1) ≡ action.Mov S64 (arg.At reg.Rax (Some (record { variable = 7; span = record { line = 5; col = 6 } }))) (arg.Var 0) ∷ action.Sign S64 (Some (record { variable = 7; span = record { line = 5; col = 6 } })) None ∷ action.Wide wide.Idiv S64 (Some (record { variable = 7; span = record { line = 5; col = 6 } })) None (arg.Var 1) ∷ []
signed_quotient = refl

signed_remainder : divide_code wide.Idiv S32 None (Some (record { variable = 8; span = record { line = 5; col = 3 } })) (arg.Var 0) (arg.Var 1) ≡ action.Mov S32 (arg.At reg.Rax None) (arg.Var 0) ∷ action.Sign S32 None (Some (record { variable = 8; span = record { line = 5; col = 3 } })) ∷ action.Wide wide.Idiv S32 None (Some (record { variable = 8; span = record { line = 5; col = 3 } })) (arg.Var 1) ∷ []
signed_remainder = refl

-- the high word, the low word and the divisor come last
division_shown : divide_shown told told ≡ These (Nth 0 ∷ []) ∷ These [] ∷ These (Nth 1 ∷ Nth 2 ∷ Nth 3 ∷ Nth 4 ∷ []) ∷ []
division_shown = refl

words_shown : divide_shown silent silent ≡ These [] ∷ These [] ∷ These (Nth 0 ∷ Nth 1 ∷ Nth 2 ∷ []) ∷ []
words_shown = refl

in_divisor : is_apart (Some (record { variable = 7; span = record { line = 5; col = 6 } })) (arg.Mem (record { base = Some 7; index = None; disp = pos 8 })) ≡ false
in_divisor = refl

not_in_divisor : is_apart (Some (record { variable = 7; span = record { line = 5; col = 6 } })) (arg.Mem (record { base = Some 8; index = None; disp = pos 8 })) ≡ true
not_in_divisor = refl

nowhere : is_apart None (arg.Mem (record { base = Some 7; index = None; disp = pos 8 })) ≡ true
nowhere = refl

-- ---- `#DIV(hi, lo, b)`
two_words : divide_two_code S64 (Some (record { variable = 7; span = record { line = 5; col = 6 } })) (Some (record { variable = 8; span = record { line = 5; col = 3 } })) (arg.Var 0) (arg.Var 1) (arg.Var 2) ≡ action.Mov S64 (arg.At reg.Rax (Some (record { variable = 7; span = record { line = 5; col = 6 } }))) (arg.Var 1) ∷ action.Mov S64 (arg.At reg.Rdx (Some (record { variable = 8; span = record { line = 5; col = 3 } }))) (arg.Var 0) ∷ action.Wide wide.Div S64 (Some (record { variable = 7; span = record { line = 5; col = 6 } })) (Some (record { variable = 8; span = record { line = 5; col = 3 } })) (arg.Var 2) ∷ []
two_words = refl

two_words_shown : divide_two_shown told told silent ≡ These (Nth 1 ∷ []) ∷ These (Nth 0 ∷ []) ∷ These (Nth 2 ∷ Nth 3 ∷ Nth 4 ∷ []) ∷ []
two_words_shown = refl

-- ---- BSWAP, counts and carries
swapped_copy : swap_code S64 4 (arg.Var 0) ≡ Some (action.Mov S64 (arg.Var 4) (arg.Var 0) ∷ action.Bswap S64 4 ∷ [])
swapped_copy = refl

swapped_in_place : swap_code S32 4 (arg.Var 4) ≡ Some (action.Bswap S32 4 ∷ [])
swapped_in_place = refl

by_number : count_code shift.Rol S64 (arg.Var 4) (arg.Var 0) None 3 ≡ Some (action.Mov S64 (arg.Var 4) (arg.Var 0) ∷ action.Shift shift.Rol S64 (arg.Var 4) 3 ∷ [])
by_number = refl

by_byte : count_code shift.Shl S64 (arg.Var 4) (arg.Var 0) (Some (record { variable = 7; span = record { line = 5; col = 6 } })) 0 ≡ Some (action.Mov S64 (arg.Var 4) (arg.Var 0) ∷ action.ShiftBy shift.Shl S64 (arg.Var 4) (record { variable = 7; span = record { line = 5; col = 6 } }) ∷ [])
by_byte = refl

byte_is_destination : count_code shift.Shl S64 (arg.Var 7) (arg.Var 0) (Some (record { variable = 7; span = record { line = 5; col = 6 } })) 0 ≡ None
byte_is_destination = refl

with_carry : two_code alu.Adc true S64 (arg.Var 4) (arg.Var 0) (arg.Var 1) (Some (record { variable = 7; span = record { line = 5; col = 6 } })) ≡ Some (action.Mov S64 (arg.Var 4) (arg.Var 0) ∷ action.Alu alu.Adc S64 (arg.Var 4) (arg.Var 1) (Some (record { variable = 7; span = record { line = 5; col = 6 } })) ∷ [])
with_carry = refl

with_borrow : two_code alu.Sbb false S64 (arg.Var 1) (arg.Var 0) (arg.Var 1) (Some (record { variable = 7; span = record { line = 5; col = 6 } })) ≡ None
with_borrow = refl

with_carry_swapped : two_code alu.Adc true S64 (arg.Var 1) (arg.Var 0) (arg.Var 1) (Some (record { variable = 7; span = record { line = 5; col = 6 } })) ≡ Some (action.Alu alu.Adc S64 (arg.Var 1) (arg.Var 0) (Some (record { variable = 7; span = record { line = 5; col = 6 } })) ∷ [])
with_carry_swapped = refl
