-- The numbers of operations and of conditions are their places in the lists.
use Rattle.std.proofs.Common.{◌≡◌, ℕ, ◌<◌, true, false, refl, arith}
use Rattle.std.specs.Prelude.{◌==◌}
use Rattle.std.proofs.lemmas.Bool.{true≢false, agree_below_at}
use Rattle.std.proofs.lemmas.Bool.Decides.{nat_tests}
use Rattle.x64_insn.specs.declared.types.Alu.{Alu}
use Rattle.x64_insn.specs.declared.types.Alu.TheVariants as alu
use Rattle.x64_insn.specs.declared.types.Cond.{Cond}
use Rattle.x64_insn.specs.declared.types.Cond.TheVariants as cond
use Rattle.x64_insn.specs.Table.{operation_of, condition_of}
use Rattle.x64_insn.specs.Chosen.{alu_number, condition_number, is_test}

pub operation_of_number : (a : Alu) → is_test a ≡ false → operation_of (alu_number a) ≡ a
unfolding operation_of
operation_of_number alu.Add h = refl
operation_of_number alu.Or h = refl
operation_of_number alu.Adc h = refl
operation_of_number alu.Sbb h = refl
operation_of_number alu.And h = refl
operation_of_number alu.Sub h = refl
operation_of_number alu.Xor h = refl
operation_of_number alu.Cmp h = refl
operation_of_number alu.Test h = absurd (true≢false h)

operation_found : (n : ℕ) → n < 8 → (alu_number (operation_of n) == n) ≡ true
unfolding operation_of
operation_found n h = agree_below_at (λ k. alu_number (operation_of k) == k) (λ k. true) 8 n refl h

pub number_of_operation : (n : ℕ) → n < 8 → alu_number (operation_of n) ≡ n
number_of_operation n h = grind (arith, nat_tests, operation_found n h)

pub condition_of_number : (c : Cond) → condition_of (condition_number c) ≡ c
unfolding condition_of
condition_of_number cond.O = refl
condition_of_number cond.No = refl
condition_of_number cond.B = refl
condition_of_number cond.Ae = refl
condition_of_number cond.E = refl
condition_of_number cond.Ne = refl
condition_of_number cond.Be = refl
condition_of_number cond.A = refl
condition_of_number cond.S = refl
condition_of_number cond.Ns = refl
condition_of_number cond.P = refl
condition_of_number cond.Np = refl
condition_of_number cond.L = refl
condition_of_number cond.Ge = refl
condition_of_number cond.Le = refl
condition_of_number cond.G = refl

condition_found : (n : ℕ) → n < 16 → (condition_number (condition_of n) == n) ≡ true
unfolding condition_of
condition_found n h = agree_below_at (λ k. condition_number (condition_of k) == k) (λ k. true) 16 n refl h

pub number_of_condition : (n : ℕ) → n < 16 → condition_number (condition_of n) ≡ n
number_of_condition n h = grind (arith, nat_tests, condition_found n h)
