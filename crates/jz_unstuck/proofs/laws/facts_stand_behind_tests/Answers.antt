use Rattle.jz_unstuck.proofs.Going.{tests_stand, marks_stand}
use Rattle.jz_unstuck.proofs.laws.facts_stand_behind_tests.Goals as goal

pub returns-clause-tests : goal.returns-clause-tests
returns-clause-tests c = tests_stand

pub returns-clause-marks : goal.returns-clause-marks
returns-clause-marks c = marks_stand
