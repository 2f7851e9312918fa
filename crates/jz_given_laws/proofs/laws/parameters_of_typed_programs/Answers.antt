use Rattle.jz_given_laws.proofs.Parameters.{differ_law, few_law}
use Rattle.jz_given_laws.proofs.laws.parameters_of_typed_programs.Goals as goal

pub returns-clause-differ : goal.returns-clause-differ
returns-clause-differ c = differ_law

pub returns-clause-few : goal.returns-clause-few
returns-clause-few c = few_law
