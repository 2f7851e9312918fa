use Rattle.jz_run_laws.proofs.Classes.{class_law, result_law, place_law}
use Rattle.jz_run_laws.proofs.size_laws.rows_see_that_size.Goals as goal

pub returns-clause-operands : goal.returns-clause-operands
returns-clause-operands c = class_law

pub returns-clause-results : goal.returns-clause-results
returns-clause-results c = result_law

pub returns-clause-places : goal.returns-clause-places
returns-clause-places c = place_law
