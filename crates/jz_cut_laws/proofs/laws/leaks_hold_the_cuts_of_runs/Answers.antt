use Rattle.jz_runs.proofs.Held.{held, held_turns, held_rounds}
use Rattle.jz_cut_laws.proofs.laws.leaks_hold_the_cuts_of_runs.Goals as goal

pub returns-clause-bodies : goal.returns-clause-bodies
returns-clause-bodies g c = λ b n s o h. held g.L.Language.parts h

pub returns-clause-turns : goal.returns-clause-turns
returns-clause-turns g c = λ p b t n s o h. held_turns g.L.Language.parts h

pub returns-clause-rounds : goal.returns-clause-rounds
returns-clause-rounds g c = λ b f is n s o h. held_rounds g.L.Language.parts h
