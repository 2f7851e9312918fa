use Rattle.jz_unstuck.proofs.Going.{words_go, tests_go}
use Rattle.jz_unstuck.proofs.laws.what_is_given_is_not_stuck.Goals as goal

pub returns-clause-words : goal.returns-clause-words
returns-clause-words c = words_go

pub returns-clause-tests : goal.returns-clause-tests
returns-clause-tests c = tests_go
