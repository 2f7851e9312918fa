use Rattle.jz_total_flags.proofs.Tests.{tests_there, loop_tests_there}
use Rattle.jz_total_flags.proofs.laws.tests_have_operations.Goals as goal

pub returns-clause-tests : goal.returns-clause-tests
returns-clause-tests c = tests_there

pub returns-clause-loop_tests : goal.returns-clause-loop_tests
returns-clause-loop_tests c = loop_tests_there
