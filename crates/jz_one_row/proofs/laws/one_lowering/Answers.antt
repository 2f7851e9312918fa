use Rattle.jz_one_row.proofs.Statements.{one_lowers, one_test, one_loop_test}
use Rattle.jz_one_row.proofs.laws.one_lowering.Goals as goal

pub returns-clause-statements : goal.returns-clause-statements
returns-clause-statements c = λ home o os us is js f g. one_lowers home o os us is js f g

pub returns-clause-tests : goal.returns-clause-tests
returns-clause-tests c = λ home t a b i j f g. one_test home t a b i j f g

pub returns-clause-loop_tests : goal.returns-clause-loop_tests
returns-clause-loop_tests c = λ home t a b i j f g. one_loop_test home t a b i j f g
