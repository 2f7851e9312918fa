use Rattle.jz_lex.proofs.Identifiers.{tokens_spelled}
use Rattle.jz_lex.proofs.laws.identifiers_are_spelled.Goals as goal

pub returns : goal.returns
returns c = tokens_spelled
