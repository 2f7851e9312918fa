use Rattle.jz_lex.proofs.Identifiers.{identifier_bytes}
use Rattle.jz_lex.proofs.laws.identifiers_have_word_bytes.Goals as goal

pub returns : goal.returns
returns c = identifier_bytes
