use Rattle.jz_expanded_heads.proofs.Heads.{heads_are_fine}
use Rattle.jz_expanded_heads.proofs.laws.heads_are_fine.Goals as goal

pub returns : goal.returns
returns c = heads_are_fine
