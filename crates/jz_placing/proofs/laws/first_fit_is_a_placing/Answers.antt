use Rattle.jz_placing.proofs.FirstFit.{tree_places}
use Rattle.jz_placing.proofs.laws.first_fit_is_a_placing.Goals as goal

pub returns : goal.returns
returns c = λ t code places within same f. tree_places t code places within same f
