use Rattle.jz_lex.proofs.LexingUnique.{end_stands_last}
use Rattle.jz_lex.proofs.laws.end_stands_last.Goals as goal

pub returns : goal.returns
returns c = end_stands_last
