-- Registers and their numbers.
use Rattle.std.proofs.Common.{◌≡◌, ℕ, ◌%◌, ◌^◌, ◌<◌, true, List, length, refl, sym, ap, ◌∙◌, arith}
use Rattle.std.specs.Prelude.{◌==◌, slice_index, slice_set}
use Rattle.std.proofs.lemmas.Bool.{agree_below_at}
use Rattle.std.proofs.lemmas.Bool.Decides.{nat_tests}
use Rattle.std.proofs.lemmas.List.{get_or-set_same}
use Rattle.x64_insn.specs.declared.types.Reg.{Reg}
use Rattle.x64_insn.specs.declared.types.Reg.TheVariants as reg
use Rattle.x64_insn.specs.Table.{number_of, reg_of}

pub reg_of_number : (r : Reg) → reg_of (number_of r) ≡ r
unfolding reg_of
reg_of_number reg.Rax = refl
reg_of_number reg.Rcx = refl
reg_of_number reg.Rdx = refl
reg_of_number reg.Rbx = refl
reg_of_number reg.Rsp = refl
reg_of_number reg.Rbp = refl
reg_of_number reg.Rsi = refl
reg_of_number reg.Rdi = refl
reg_of_number reg.R8 = refl
reg_of_number reg.R9 = refl
reg_of_number reg.R10 = refl
reg_of_number reg.R11 = refl
reg_of_number reg.R12 = refl
reg_of_number reg.R13 = refl
reg_of_number reg.R14 = refl
reg_of_number reg.R15 = refl

pub number_small : (r : Reg) → number_of r < 16
number_small reg.Rax = omega arith
number_small reg.Rcx = omega arith
number_small reg.Rdx = omega arith
number_small reg.Rbx = omega arith
number_small reg.Rsp = omega arith
number_small reg.Rbp = omega arith
number_small reg.Rsi = omega arith
number_small reg.Rdi = omega arith
number_small reg.R8 = omega arith
number_small reg.R9 = omega arith
number_small reg.R10 = omega arith
number_small reg.R11 = omega arith
number_small reg.R12 = omega arith
number_small reg.R13 = omega arith
number_small reg.R14 = omega arith
number_small reg.R15 = omega arith

-- the number of a register's place in the list is that place
number_found : (n : ℕ) → n < 16 → (number_of (reg_of n) == n) ≡ true
unfolding reg_of
number_found n h = agree_below_at (λ k. number_of (reg_of k) == k) (λ k. true) 16 n refl h

pub number_of_reg : (n : ℕ) → n < 16 → number_of (reg_of n) ≡ n
number_of_reg n h = grind (arith, nat_tests, number_found n h)

-- a register is known by its number
pub same_register : (q r : Reg) → number_of q ≡ number_of r → q ≡ r
same_register q r e = sym (reg_of_number q) ∙ ap reg_of e ∙ reg_of_number r

-- a register that was set holds the word
pub word_same : (regs : List ℕ) (r : Reg) (w : ℕ) → length regs ≡ 16 → w < 2 ^ 64 → slice_index (slice_set regs (number_of r) w) (number_of r) % 2 ^ 64 ≡ w
word_same regs r w size small =
    let within : number_of r < length regs = omega (arith, number_small r, size) in
    let e : slice_index (slice_set regs (number_of r) w) (number_of r) ≡ w = get_or-set_same regs (number_of r) w 0 within in
    omega (arith, e, small)
