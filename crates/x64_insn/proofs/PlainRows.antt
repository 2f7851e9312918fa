-- The steps of operations and moves of 64 bits to a register from a register or an immediate.
use Rattle.std.proofs.Common.{◌≡◌, ℕ, true, false, ap, ◌∙◌, refl}
use Rattle.std.specs.Prelude.{Some, Ok}
use Rattle.jz_words.specs.declared.size.Size.TheVariants.{S64}
use Rattle.jz_words.specs.Words.{residue}
use Rattle.jz_words.specs.Memory.{Memory}
use Rattle.x64_insn.specs.declared.answer.Answer.{Answer}
use Rattle.x64_insn.specs.declared.types.Reg.{Reg}
use Rattle.x64_insn.specs.declared.types.Operand.{Operand}
use Rattle.x64_insn.specs.declared.types.Operand.TheVariants as operand
use Rattle.x64_insn.specs.declared.types.Alu.{Alu}
use Rattle.x64_insn.specs.declared.types.Insn.TheVariants as insn
use Rattle.x64_insn.specs.declared.types.State.{State}
use Rattle.x64_insn.specs.Answers.{alu_answer}
use Rattle.x64_insn.specs.Rows.{After, effect_of, reg_word, with_reg, no_event, carry_read, writes_operand, alu_row, mov_row, operand_value, put_row}
use Rattle.x64_insn.specs.Laws.{IsWordOf}

-- a register with an answer's word, and its flags
abbrev pub answered : Reg → Answer → ℕ → State → Memory → After
answered to r next st m = record { state = record (with_reg st S64 to r.value) { rip = next; flags = r.flags }; memory = m; leak = no_event }

-- an operation that reads no carry and writes its operand
pub operation_step : (a : Alu) (to : Reg) (o : Operand) (b next : ℕ) (st : State) (m : Memory) → carry_read a st ≡ Some false → writes_operand a ≡ true → IsWordOf st o b
    → effect_of (insn.Alu a S64 (operand.Reg to) o) next st m ≡ Ok (answered to (alu_answer a S64 (reg_word st S64 to) b false) next st m)
unfolding alu_row operand_value put_row
operation_step a to (operand.Reg r) b next st m c w is =
    let step : effect_of (insn.Alu a S64 (operand.Reg to) (operand.Reg r)) next st m ≡ Ok (answered to (alu_answer a S64 (reg_word st S64 to) (reg_word st S64 r) false) next st m) = rw (c, w) refl in
    step ∙ ap (λ v. Ok (answered to (alu_answer a S64 (reg_word st S64 to) v false) next st m)) is
operation_step a to (operand.Imm i) b next st m c w is =
    let step : effect_of (insn.Alu a S64 (operand.Reg to) (operand.Imm i)) next st m ≡ Ok (answered to (alu_answer a S64 (reg_word st S64 to) (residue S64 i) false) next st m) = rw (c, w) refl in
    step ∙ ap (λ v. Ok (answered to (alu_answer a S64 (reg_word st S64 to) v false) next st m)) is
operation_step a to (operand.Mem x) b next st m c w is = absurd is

pub move_step : (to : Reg) (o : Operand) (b next : ℕ) (st : State) (m : Memory) → IsWordOf st o b
    → effect_of (insn.Mov S64 (operand.Reg to) o) next st m ≡ Ok (answered to (record { value = b; flags = st.flags }) next st m)
unfolding mov_row operand_value put_row
move_step to (operand.Reg r) b next st m is = ap (λ v. Ok (answered to (record { value = v; flags = st.flags }) next st m)) is
move_step to (operand.Imm i) b next st m is = ap (λ v. Ok (answered to (record { value = v; flags = st.flags }) next st m)) is
move_step to (operand.Mem x) b next st m is = absurd is
