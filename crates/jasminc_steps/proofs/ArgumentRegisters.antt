-- Past the argument registers nothing is placed.
use Rattle.std.proofs.Common.{◌≡◌, ℕ, zero, suc, ◌≤◌, List, [], ◌∷◌, length, drop, refl, ap, ◌∙◌, arith}
use Rattle.x64_insn.specs.declared.types.Reg.{Reg}
use Rattle.jz_correct.specs.Registers.{argument_registers}
use Rattle.jasminc_steps.specs.Starting.{with_numbers}

past : (rs : List Reg) (i : ℕ) → length rs ≤ i → drop i rs ≡ []
past [] zero h = refl
past [] (suc i) h = refl
past (r ∷ rs) zero h = absurd (omega arith)
past (r ∷ rs) (suc i) h = past rs i (omega arith)

no_registers : (ns regs : List ℕ) → with_numbers ns [] regs ≡ regs
no_registers [] regs = refl
no_registers (n ∷ ns) regs = refl

pub none_placed : (i : ℕ) (ns regs : List ℕ) → 6 ≤ i → with_numbers ns (drop i argument_registers) regs ≡ regs
none_placed i ns regs h = ap (λ rs. with_numbers ns rs regs) (past argument_registers i h) ∙ no_registers ns regs
