use Rattle.jz_lex.proofs.LexingUnique.{lexed_or_refused}
use Rattle.jz_lex.proofs.laws.lexed_or_refused.Goals as goal

pub returns : goal.returns
returns c = lexed_or_refused
