use Rattle.jz_item_names.proofs.Numbers.{both_between}
use Rattle.jz_item_names.proofs.laws.names_are_composed.Goals as goal

pub returns : goal.returns
returns c = λ x y z s t f g. both_between f g
