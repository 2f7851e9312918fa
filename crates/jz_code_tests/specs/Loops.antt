-- A small tree: while { rax += 1; } (rdi < rsi) { rdi += 1; }
use Rattle.std.specs.Prelude.{false, pos, Some}
use Rattle.jz_words.specs.declared.size.Size.TheVariants.{S64}
use Rattle.x64_insn.specs.declared.types.Reg.{Reg}
use Rattle.x64_insn.specs.declared.types.Reg.TheVariants as reg
use Rattle.x64_insn.specs.declared.types.Alu.TheVariants as alu
use Rattle.x64_insn.specs.declared.types.Cond.TheVariants as cond
use Rattle.x64_insn.specs.declared.types.Operand.TheVariants as operand
use Rattle.x64_insn.specs.declared.types.Insn.{Insn}
use Rattle.x64_insn.specs.declared.types.Insn.TheVariants as insn
use Rattle.jz_runs.specs.Trees.{done, op, loop}
use Rattle.jz_placing.specs.Instructions.{if_holds, Code}

abbrev pub add_one : Reg → Insn
add_one r = insn.Alu alu.Add S64 (operand.Reg r) (operand.Imm (pos 1))

abbrev pub compare : Insn
compare = insn.Alu alu.Cmp S64 (operand.Reg reg.Rdi) (operand.Reg reg.Rsi)

abbrev pub small_loop : Code
small_loop =
    loop false (op (add_one reg.Rax) done) (if_holds (Some compare) cond.B)
    (op (add_one reg.Rdi) done) done
