use Rattle.jz_run_laws.proofs.Uncut.{whole_law, calls_law}
use Rattle.jz_run_laws.proofs.laws.calls_hold_whole_bodies.Goals as goal

pub returns-clause-bodies : goal.returns-clause-bodies
returns-clause-bodies c = whole_law

pub returns-clause-calls : goal.returns-clause-calls
returns-clause-calls c = calls_law
