-- Bytes and cases of worked examples, by the definitions alone. They are those of the second implementation.
use Rattle.std.specs.Prelude.{◌≡◌, refl, true, false, pos, negsuc, [], ◌∷◌, Some}
use Rattle.jz_words.specs.declared.size.Size.TheVariants.{S64}
use Rattle.x64_insn.specs.declared.types.Reg.{Reg}
use Rattle.x64_insn.specs.declared.types.Reg.TheVariants as reg
use Rattle.x64_insn.specs.declared.types.Alu.TheVariants as alu
use Rattle.x64_insn.specs.declared.types.Cond.TheVariants as cond
use Rattle.x64_insn.specs.declared.types.Operand.TheVariants as operand
use Rattle.x64_insn.specs.declared.types.Insn.{Insn}
use Rattle.x64_insn.specs.declared.types.Insn.TheVariants as insn
use Rattle.x64_insn.specs.Encoding.{spelling_of}
use Rattle.x64_insn.specs.Chosen.{chosen_bytes, chosen_fields, modrm_fields, rm_parts}
use Rattle.jz_leak.specs.declared.transformer.Form.TheVariants as form
use Rattle.jz_leak.specs.declared.transformer.Out.TheVariants as out
use Rattle.jz_leak.specs.declared.transformer.Case.TheVariants as case
use Rattle.jz_runs.specs.Trees.{done, op, choose, loop}
use Rattle.jz_placing.specs.Instructions.{Code, always, if_holds}
use Rattle.jz_linear.specs.Lines.{linear_of, cases_of}
use Rattle.x64_assemble.specs.Assembling.{bytes_of_lines}
use Rattle.jz_stack.specs.Framed.{save, load, framed, slot_outs}

abbrev add_one : Reg → Insn
add_one r = insn.Alu alu.Add S64 (operand.Reg r) (operand.Imm (pos 1))

abbrev compare : Reg → Reg → Insn
compare a b = insn.Alu alu.Cmp S64 (operand.Reg a) (operand.Reg b)

abbrev is_zero : Insn
is_zero = insn.Alu alu.Cmp S64 (operand.Reg reg.Rdi) (operand.Imm (pos 0))

-- r = 0; while (x != 0) { if (x < y) { r += x; } else { r -= y; } x -= 1; } while { x += 1; } (x < y)
abbrev loops : Code
loops =
    op (insn.Mov S64 (operand.Reg reg.Rax) (operand.Imm (pos 0)))
    (loop false done (if_holds (Some is_zero) cond.Ne)
    (choose (if_holds (Some (compare reg.Rdi reg.Rsi)) cond.B)
    (op (insn.Alu alu.Add S64 (operand.Reg reg.Rax) (operand.Reg reg.Rdi)) done)
    (op (insn.Alu alu.Sub S64 (operand.Reg reg.Rax) (operand.Reg reg.Rsi)) done)
    (op (insn.Alu alu.Sub S64 (operand.Reg reg.Rdi) (operand.Imm (pos 1))) done))
    (loop true (op (add_one reg.Rdi) done) (if_holds (Some (compare reg.Rdi reg.Rsi)) cond.B) done done))

loops_bytes : bytes_of_lines (linear_of loops) ≡ 0x48 ∷ 0xc7 ∷ 0xc0 ∷ 0x00 ∷ 0x00 ∷ 0x00 ∷ 0x00 ∷ 0x48 ∷ 0x83 ∷ 0xff ∷ 0x00 ∷ 0x0f ∷ 0x84 ∷ 0x1d ∷ 0x00 ∷ 0x00 ∷ 0x00 ∷ 0x48 ∷ 0x39 ∷ 0xf7 ∷ 0x0f ∷ 0x83 ∷ 0x08 ∷ 0x00 ∷ 0x00 ∷ 0x00 ∷ 0x48 ∷ 0x01 ∷ 0xf8 ∷ 0xe9 ∷ 0x03 ∷ 0x00 ∷ 0x00 ∷ 0x00 ∷ 0x48 ∷ 0x29 ∷ 0xf0 ∷ 0x48 ∷ 0x83 ∷ 0xef ∷ 0x01 ∷ 0xe9 ∷ 0xd9 ∷ 0xff ∷ 0xff ∷ 0xff ∷ 0x48 ∷ 0x83 ∷ 0xc7 ∷ 0x01 ∷ 0x48 ∷ 0x39 ∷ 0xf7 ∷ 0x0f ∷ 0x82 ∷ 0xf3 ∷ 0xff ∷ 0xff ∷ 0xff ∷ 0xc3 ∷ []
unfolding chosen_bytes chosen_fields modrm_fields rm_parts spelling_of
loops_bytes = refl

loops_cases : cases_of loops ≡
    case.Op []
    ∷ case.While (record { cases = [] }) [] (out.Branch false ∷ [])
    (record { cases = case.If [] (out.Branch false ∷ []) (record { cases = case.Op [] ∷ [] }) (out.Branch true ∷ []) (record { cases = case.Op [] ∷ [] }) ∷ case.Op [] ∷ [] }) (out.Branch true ∷ [])
    ∷ case.While (record { cases = case.Op [] ∷ [] }) [] (out.Branch true ∷ []) (record { cases = [] }) (out.Branch false ∷ []) ∷ []
loops_cases = refl

-- while (true) { }
abbrev ever : Code
ever = loop false done always done done

ever_bytes : bytes_of_lines (linear_of ever) ≡ 0xe9 ∷ 0xfb ∷ 0xff ∷ 0xff ∷ 0xff ∷ 0xc3 ∷ []
unfolding chosen_bytes chosen_fields modrm_fields rm_parts spelling_of
ever_bytes = refl

-- if (x != 0) { x += 1; } while (true) { if (x != 0) { x += 1; } else { } }
abbrev no_else : Code → Code
no_else r = choose (if_holds (Some is_zero) cond.Ne) (op (add_one reg.Rdi) done) done r

no_else_bytes : bytes_of_lines (linear_of (no_else (loop false done always (no_else done) done))) ≡ 0x48 ∷ 0x83 ∷ 0xff ∷ 0x00 ∷ 0x0f ∷ 0x84 ∷ 0x04 ∷ 0x00 ∷ 0x00 ∷ 0x00 ∷ 0x48 ∷ 0x83 ∷ 0xc7 ∷ 0x01 ∷ 0x48 ∷ 0x83 ∷ 0xff ∷ 0x00 ∷ 0x0f ∷ 0x84 ∷ 0x04 ∷ 0x00 ∷ 0x00 ∷ 0x00 ∷ 0x48 ∷ 0x83 ∷ 0xc7 ∷ 0x01 ∷ 0xe9 ∷ 0xed ∷ 0xff ∷ 0xff ∷ 0xff ∷ 0xc3 ∷ []
unfolding chosen_bytes chosen_fields modrm_fields rm_parts spelling_of
no_else_bytes = refl

-- s = x; r = s; with s on the stack
stack_bytes : bytes_of_lines (linear_of (framed 8 8 [] (op (save reg.Rdi 0) (op (load reg.Rax 0) done)))) ≡ 0x48 ∷ 0x83 ∷ 0xec ∷ 0x08 ∷ 0x48 ∷ 0x89 ∷ 0x3c ∷ 0x24 ∷ 0x48 ∷ 0x8b ∷ 0x04 ∷ 0x24 ∷ 0x48 ∷ 0x83 ∷ 0xc4 ∷ 0x08 ∷ 0xc3 ∷ []
unfolding chosen_bytes chosen_fields modrm_fields rm_parts spelling_of
stack_bytes = refl

-- two preserved registers in a frame of 24
two_slots : slot_outs 24 0 (reg.Rbx ∷ reg.Rbp ∷ []) ≡ out.Addr (form.Frame (negsuc 23)) ∷ out.Addr (form.Frame (negsuc 15)) ∷ []
two_slots = refl
