use Rattle.std.proofs.Common.{inr, refl}
use Rattle.jasminc_compile.proofs.Choosing.{all_made_ones}
use Rattle.jasminc_compile.proofs.settling.first_behind_frames.Goals as goal

pub returns-in-Some-clause-found : goal.returns-in-Some-clause-found
returns-in-Some-clause-found c = inr (c.requires, c.in-Some.ensures.found)

pub returns-in-None-clause-none : goal.returns-in-None-clause-none
returns-in-None-clause-none c = λ e. all_made_ones c.args.outcomes.now c.requires (c.in-None.ensures.none refl)
