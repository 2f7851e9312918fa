use Rattle.jz_type_storage.proofs.Ranked.{not_recursive}
use Rattle.jz_type_storage.proofs.rank_laws.ranks_leave_no_recursion.Goals as goal

pub returns : goal.returns
returns c = λ p ranks at r h. not_recursive p ranks at r h
