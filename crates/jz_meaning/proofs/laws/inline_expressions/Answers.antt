use Rattle.jz_meaning.proofs.InlineLemmas.{leaks_nothing}
use Rattle.jz_meaning.proofs.laws.inline_expressions.Goals as goal

pub returns : goal.returns
returns c = leaks_nothing
