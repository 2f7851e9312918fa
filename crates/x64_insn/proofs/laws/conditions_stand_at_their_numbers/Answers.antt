use Rattle.x64_insn.proofs.Numbers.{condition_of_number, number_of_condition}
use Rattle.x64_insn.proofs.laws.conditions_stand_at_their_numbers.Goals as goal

pub returns-clause-condition : goal.returns-clause-condition
returns-clause-condition c = condition_of_number

pub returns-clause-number : goal.returns-clause-number
returns-clause-number c = number_of_condition
