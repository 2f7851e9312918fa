use Rattle.jz_plain_operands.proofs.Lefts.{words_are_taken, pinned_are_taken, flags_are_taken}
use Rattle.jz_plain_operands.proofs.laws.results_are_plain.Goals as goal

pub returns-clause-words : goal.returns-clause-words
returns-clause-words c = words_are_taken

pub returns-clause-pinned : goal.returns-clause-pinned
returns-clause-pinned c = pinned_are_taken

pub returns-clause-flags : goal.returns-clause-flags
returns-clause-flags c = flags_are_taken
