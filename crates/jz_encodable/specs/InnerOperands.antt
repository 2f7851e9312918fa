-- Operands with each variable in RAX, and each stack variable so far above the stack pointer.
use Rattle.std.specs.Prelude.{ℕ}
use Rattle.jz_words.specs.declared.size.Size.{Size}
use Rattle.x64_insn.specs.declared.types.Place.{Place}
use Rattle.x64_insn.specs.declared.types.Place.TheVariants as place
use Rattle.x64_insn.specs.declared.types.Reg.TheVariants as reg
use Rattle.x64_insn.specs.declared.types.Operand.{Operand}
use Rattle.jz_operations.specs.declared.operation.Arg.{Arg}
use Rattle.jz_operations.specs.Insns.{operand_of}

abbrev pub in_rax : ℕ → Place
in_rax v = place.Reg reg.Rax

abbrev pub at_slot : ℕ → ℕ → ℕ
at_slot d v = d

abbrev pub operand_at : ℕ → Arg → Size → Operand
operand_at d a s = operand_of in_rax (at_slot d) a s
