use Rattle.jz_inline_laws.proofs.Whole.{inline_law}
use Rattle.jz_inline_laws.proofs.laws.inline_variables_are_typed.Goals as goal

pub returns : goal.returns
returns c = inline_law
