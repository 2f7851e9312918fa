use Rattle.jz_parse.specs.Deriving.{most_nested}
use Rattle.jz_parse.proofs.LastToken.{at_a_token_law}
use Rattle.jz_parse.proofs.read.a_fault_is_at_a_token.Goals as goal

pub returns : goal.returns
returns c = at_a_token_law most_nested
