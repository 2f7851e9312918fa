use Rattle.jz_expansion_cases.proofs.Passes.{expansion_between}
use Rattle.jz_expansion_cases.proofs.laws.expansions_name_the_same.Goals as goal

pub returns : goal.returns
returns c = λ p f g k n typed text has e. expansion_between p f (record { typed = typed; text = text }) has g k n e
