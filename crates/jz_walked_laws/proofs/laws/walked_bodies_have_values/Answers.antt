use Rattle.jz_walked_laws.proofs.Whole.{named_law, called_law, results_law}
use Rattle.jz_walked_laws.proofs.laws.walked_bodies_have_values.Goals as goal

pub returns-clause-named : goal.returns-clause-named
returns-clause-named c = named_law

pub returns-clause-called : goal.returns-clause-called
returns-clause-called c = called_law

pub returns-clause-results : goal.returns-clause-results
returns-clause-results c = results_law
