use Rattle.jz_one_flag_row.proofs.OneStatement.{one_flag_lowers, one_flag_test}
use Rattle.jz_one_flag_row.proofs.laws.one_flag_lowering.Goals as goal

pub returns-clause-statements : goal.returns-clause-statements
returns-clause-statements c = one_flag_lowers

pub returns-clause-tests : goal.returns-clause-tests
returns-clause-tests c = one_flag_test
