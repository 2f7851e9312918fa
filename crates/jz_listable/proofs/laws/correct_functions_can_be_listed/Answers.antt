use Rattle.jz_listable.proofs.Listed.{correct_listable}
use Rattle.jz_listable.proofs.laws.correct_functions_can_be_listed.Goals as goal

pub returns : goal.returns
returns c = correct_listable
