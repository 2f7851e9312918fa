use Rattle.jz_breaches.proofs.statements.set_in_loop.Goals as goal

pub returns-clause-prologue : goal.returns-clause-prologue
returns-clause-prologue c = λ r k e g. c.in_ok-scalars_set.ensures.1 r k e (c.in_ok-turn_sets.ensures.0 k g)

pub returns-clause-body : goal.returns-clause-body
returns-clause-body c = c.in_ok-turn_sets.ensures.1
