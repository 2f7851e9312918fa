use Rattle.jz_lex.proofs.LexingUnique.{one_fault}
use Rattle.jz_lex.proofs.laws.one_fault.Goals as goal

pub returns : goal.returns
returns c = one_fault
