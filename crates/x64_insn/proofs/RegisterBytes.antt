-- The bytes of operations on registers of 64 bits.
use Rattle.std.proofs.Common.{◌≡◌, ℕ, zero, suc, ◌+◌, ◌*◌, ◌/◌, ◌%◌, ◌^◌, ◌<◌, ◌≤◌, Bool, true, false, List, ◌∷◌, length, refl, subst, sym, arith, lit≤}
use Rattle.std.specs.Prelude.{ℤ, Some, None, if◌then◌else◌}
use Rattle.std.specs.List.{AllByRecursion}
use Rattle.std.proofs.lemmas.Bool.Decides.{nat_tests}
use Rattle.jz_words.specs.declared.size.Size.TheVariants.{S64}
use Rattle.jz_words.specs.Words.{modulo}
use Rattle.x64_insn.specs.declared.types.Reg.{Reg}
use Rattle.x64_insn.specs.declared.types.Alu.{Alu}
use Rattle.x64_insn.specs.declared.types.Alu.TheVariants as alu
use Rattle.x64_insn.specs.declared.types.Operand.TheVariants as operand
use Rattle.x64_insn.specs.declared.types.Insn.TheVariants as insn
use Rattle.x64_insn.specs.Table.{number_of}
use Rattle.x64_insn.specs.Encoding.{spelling_of}
use Rattle.x64_insn.specs.Chosen.{bytes_of_number, signed_bytes, fits_bytes, rex_with, rm_parts, modrm_fields, with_register, with_number, with_opcode_register, chosen_fields, chosen_bytes}
use Rattle.x64_insn.proofs.Registers.{number_small}
use Rattle.x64_insn.proofs.Immediates.{length_is}

-- ---- what stands in a spelling
wide_rex : (r b : ℕ) (needed : Bool) → rex_with 1 r 0 b needed ≡ Some (0x48 + 4 * r + b)
wide_rex r b needed = grind (arith, nat_tests)

register_spelling : (o n : ℕ) (to : Reg) (immediate : List ℕ)
    → spelling_of (modrm_fields S64 false None o n (operand.Reg to) immediate) ≡ (0x48 + 4 * (n / 8) + number_of to / 8) ∷ (o ∷ ((64 * 3 + 8 * (n % 8) + number_of to % 8) ∷ immediate))
unfolding spelling_of modrm_fields rm_parts
register_spelling o n to immediate = let e = wide_rex (n / 8) (number_of to / 8) false in rw e refl

opcode_spelling : (o : ℕ) (r : Reg) (immediate : List ℕ) → spelling_of (with_opcode_register S64 None o r immediate) ≡ (0x48 + 4 * 0 + number_of r / 8) ∷ ((o + number_of r % 8) ∷ immediate)
unfolding spelling_of
opcode_spelling o r immediate = let e = wide_rex 0 (number_of r / 8) false in rw e refl

-- ---- bytes, so many at most
pub record AreFew (n : ℕ) (bs : List ℕ) : Type 0 where
  pub small : AllByRecursion (λ b. b < 256) bs
  pub few : length bs ≤ n

number_small_bytes : (k n : ℕ) → AllByRecursion (λ b. b < 256) (bytes_of_number k n)
number_small_bytes zero n = tt
number_small_bytes (suc k) n = (omega arith, number_small_bytes k (n / 256))

register_few : (o n : ℕ) (to : Reg) (k v : ℕ) → o < 256 → n < 16 → k ≤ 4 → AreFew 10 (spelling_of (modrm_fields S64 false None o n (operand.Reg to) (bytes_of_number k v)))
register_few o n to k v ho hn hk =
    let t = number_small to in
    subst (λ bs. AreFew 10 bs) (sym (register_spelling o n to (bytes_of_number k v)))
    (record { small = (omega (arith, t, hn), (ho, (omega (arith, t, hn), number_small_bytes k v))); few = let e = length_is k v in omega (arith, e, hk) })

opcode_few : (o : ℕ) (r : Reg) (k v : ℕ) → o < 248 → k ≤ 8 → AreFew 10 (spelling_of (with_opcode_register S64 None o r (bytes_of_number k v)))
opcode_few o r k v ho hk =
    let t = number_small r in
    subst (λ bs. AreFew 10 bs) (sym (opcode_spelling o r (bytes_of_number k v)))
    (record { small = (omega (arith, t), (omega (arith, t, ho), number_small_bytes k v)); few = let e = length_is k v in omega (arith, e, hk) })

-- ---- instructions
alu_reg_by : (o : ℕ) (to from : Reg) → o < 256 → AreFew 10 (spelling_of (with_register S64 o from (operand.Reg to)))
alu_reg_by o to from ho = register_few o (number_of from) to 0 0 ho (number_small from) (lit≤ tt)

pub alu_reg_few : (a : Alu) (to from : Reg) → AreFew 10 (chosen_bytes (insn.Alu a S64 (operand.Reg to) (operand.Reg from)))
unfolding chosen_bytes chosen_fields
alu_reg_few alu.Add to from = alu_reg_by 1 to from (omega arith)
alu_reg_few alu.Or to from = alu_reg_by 9 to from (omega arith)
alu_reg_few alu.Adc to from = alu_reg_by 17 to from (omega arith)
alu_reg_few alu.Sbb to from = alu_reg_by 25 to from (omega arith)
alu_reg_few alu.And to from = alu_reg_by 33 to from (omega arith)
alu_reg_few alu.Sub to from = alu_reg_by 41 to from (omega arith)
alu_reg_few alu.Xor to from = alu_reg_by 49 to from (omega arith)
alu_reg_few alu.Cmp to from = alu_reg_by 57 to from (omega arith)
alu_reg_few alu.Test to from = alu_reg_by 0x85 to from (omega arith)

pub mov_reg_few : (to from : Reg) → AreFew 10 (chosen_bytes (insn.Mov S64 (operand.Reg to) (operand.Reg from)))
unfolding chosen_bytes chosen_fields
mov_reg_few to from = register_few 0x89 (number_of from) to 0 0 (omega arith) (number_small from) (omega arith)

number_few : (o n k : ℕ) (to : Reg) (i : ℤ) → o < 256 → n < 16 → k ≤ 4 → AreFew 10 (spelling_of (with_number S64 o n (operand.Reg to) (signed_bytes k i)))
number_few o n k to i ho hn hk = register_few o n to k (modulo i (256 ^ k)) ho hn hk

alu_by : (n : ℕ) (to : Reg) (i : ℤ) (b : Bool) → n < 16 → AreFew 10 (spelling_of (if b then with_number S64 0x83 n (operand.Reg to) (signed_bytes 1 i) else with_number S64 0x81 n (operand.Reg to) (signed_bytes 4 i)))
alu_by n to i true h = number_few 0x83 n 1 to i (omega arith) h (omega arith)
alu_by n to i false h = number_few 0x81 n 4 to i (omega arith) h (omega arith)

pub alu_imm_few : (a : Alu) (to : Reg) (i : ℤ) → AreFew 10 (chosen_bytes (insn.Alu a S64 (operand.Reg to) (operand.Imm i)))
unfolding chosen_bytes chosen_fields
alu_imm_few alu.Add to i = alu_by 0 to i (fits_bytes 1 i) (omega arith)
alu_imm_few alu.Or to i = alu_by 1 to i (fits_bytes 1 i) (omega arith)
alu_imm_few alu.Adc to i = alu_by 2 to i (fits_bytes 1 i) (omega arith)
alu_imm_few alu.Sbb to i = alu_by 3 to i (fits_bytes 1 i) (omega arith)
alu_imm_few alu.And to i = alu_by 4 to i (fits_bytes 1 i) (omega arith)
alu_imm_few alu.Sub to i = alu_by 5 to i (fits_bytes 1 i) (omega arith)
alu_imm_few alu.Xor to i = alu_by 6 to i (fits_bytes 1 i) (omega arith)
alu_imm_few alu.Cmp to i = alu_by 7 to i (fits_bytes 1 i) (omega arith)
alu_imm_few alu.Test to i = number_few 0xF7 0 4 to i (omega arith) (omega arith) (omega arith)

mov_by : (to : Reg) (i : ℤ) (b : Bool) → AreFew 10 (spelling_of (if b then with_number S64 0xC7 0 (operand.Reg to) (signed_bytes 4 i) else with_opcode_register S64 None 0xB8 to (signed_bytes 8 i)))
mov_by to i true = number_few 0xC7 0 4 to i (omega arith) (omega arith) (omega arith)
mov_by to i false = opcode_few 0xB8 to 8 (modulo i (256 ^ 8)) (omega arith) (omega arith)

pub mov_imm_few : (to : Reg) (i : ℤ) → AreFew 10 (chosen_bytes (insn.Mov S64 (operand.Reg to) (operand.Imm i)))
unfolding chosen_bytes chosen_fields
mov_imm_few to i = mov_by to i (fits_bytes 4 i)

pub ret_few : AreFew 10 (chosen_bytes insn.Ret)
unfolding chosen_bytes chosen_fields spelling_of
ret_few = record { small = (omega arith, tt); few = lit≤ tt }
