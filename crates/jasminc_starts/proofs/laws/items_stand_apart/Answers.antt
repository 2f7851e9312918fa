use Rattle.jz_items.proofs.Fitting.{items_fit}
use Rattle.jasminc_starts.proofs.Apart.{stand_apart}
use Rattle.jasminc_starts.proofs.laws.items_stand_apart.Goals as goal

pub returns : goal.returns
returns c = λ items h. (items_fit h.0 items h.1, stand_apart items h)
