use Rattle.jz_plain_operands.proofs.Operands.{words_are_operands, flags_are_operands, sums_are_operands}
use Rattle.jz_plain_operands.proofs.Counts.{counts_are_operands}
use Rattle.jz_plain_operands.proofs.Answers.{tests_are_answers}
use Rattle.jz_plain_operands.proofs.laws.operands_are_plain.Goals as goal

pub returns-clause-words : goal.returns-clause-words
returns-clause-words c = words_are_operands

pub returns-clause-flags : goal.returns-clause-flags
returns-clause-flags c = flags_are_operands

pub returns-clause-sums : goal.returns-clause-sums
returns-clause-sums c = sums_are_operands

pub returns-clause-tests : goal.returns-clause-tests
returns-clause-tests c = tests_are_answers

pub returns-clause-counts : goal.returns-clause-counts
returns-clause-counts c = counts_are_operands
