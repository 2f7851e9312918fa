use Rattle.x64_insn.proofs.Numbers.{operation_of_number, number_of_operation}
use Rattle.x64_insn.proofs.laws.operations_stand_at_their_numbers.Goals as goal

pub returns-clause-operation : goal.returns-clause-operation
returns-clause-operation c = operation_of_number

pub returns-clause-number : goal.returns-clause-number
returns-clause-number c = number_of_operation
