use Rattle.jz_lex.proofs.LexingUnique.{one_lexing}
use Rattle.jz_lex.proofs.laws.one_lexing.Goals as goal

pub returns : goal.returns
returns c = one_lexing
