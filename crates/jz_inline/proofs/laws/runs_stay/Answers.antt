use Rattle.jz_bodies.specs.Declared.{scopes_in}
use Rattle.jz_inline.proofs.Functions.{carries}
use Rattle.jz_inline.proofs.laws.runs_stay.Goals as goal

pub returns : goal.returns
returns c = λ p f typed exported. carries (scopes_in p) p f typed.scope typed.zero typed.body (typed.returned exported) typed.entered
