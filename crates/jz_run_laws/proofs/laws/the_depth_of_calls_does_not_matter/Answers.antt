use Rattle.jz_run_laws.proofs.Uncut.{callees_law, bodies_law}
use Rattle.jz_run_laws.proofs.laws.the_depth_of_calls_does_not_matter.Goals as goal

pub returns-clause-callees : goal.returns-clause-callees
returns-clause-callees c = callees_law

pub returns-clause-bodies : goal.returns-clause-bodies
returns-clause-bodies c = bodies_law
