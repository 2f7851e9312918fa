use Rattle.jz_preconditions.proofs.LeastMeets.{least_meets}
use Rattle.jasminc_source.proofs.Causing.{text_typed}
use Rattle.jz_stated.proofs.Annotated.{asked_well}
use Rattle.jasminc_interp.proofs.laws.typed_functions_can_be_met.Goals as goal

pub returns : goal.returns
returns c = λ text p f t among x. least_meets f (asked_well p f (text_typed text p t) among x)
