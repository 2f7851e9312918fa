use Rattle.jz_change.proofs.CutsKept.{map_cut}
use Rattle.jz_change.proofs.laws.a_cut_stays_a_cut.Goals as goal

pub returns : goal.returns
returns c = λ l a f. map_cut f
