use Rattle.jz_lowered_expansions.proofs.Whole.{expansions_have_code, only_large}
use Rattle.jz_lowered_expansions.proofs.laws.expansions_have_code.Goals as goal

pub returns-clause-code : goal.returns-clause-code
returns-clause-code c = expansions_have_code

pub returns-clause-size : goal.returns-clause-size
returns-clause-size c = only_large
