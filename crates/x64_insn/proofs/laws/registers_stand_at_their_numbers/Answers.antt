use Rattle.x64_insn.proofs.Registers.{reg_of_number, number_of_reg}
use Rattle.x64_insn.proofs.laws.registers_stand_at_their_numbers.Goals as goal

pub returns-clause-register : goal.returns-clause-register
returns-clause-register c = reg_of_number

pub returns-clause-number : goal.returns-clause-number
returns-clause-number c = number_of_reg
