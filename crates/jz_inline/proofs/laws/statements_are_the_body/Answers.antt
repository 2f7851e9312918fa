use Rattle.jz_inline.proofs.Made.{inlined_is}
use Rattle.jz_inline.proofs.laws.statements_are_the_body.Goals as goal

pub returns : goal.returns
returns c = λ p f. inlined_is p f
