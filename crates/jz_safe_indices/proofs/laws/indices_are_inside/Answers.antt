use Rattle.jz_safe_indices.proofs.Asked.{all_inside}
use Rattle.jz_safe_indices.proofs.laws.indices_are_inside.Goals as goal

pub returns : goal.returns
returns c = λ g body results home h. all_inside g home body results h
