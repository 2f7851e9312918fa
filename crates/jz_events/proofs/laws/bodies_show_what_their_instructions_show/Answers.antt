use Rattle.jz_events.proofs.Law.{all_fit, all_show}
use Rattle.jz_events.proofs.laws.bodies_show_what_their_instructions_show.Goals as goal

pub returns-clause-fits : goal.returns-clause-fits
returns-clause-fits c = λ frame slots size at saved t n σ o g. all_fit frame slots size at saved t n σ o g

pub returns-clause-events : goal.returns-clause-events
returns-clause-events c = λ frame slots size at saved t places n σ o g. all_show frame slots size at saved t places n σ o g
