use Rattle.jz_ready.proofs.Whole.{ready_law, entry_law}
use Rattle.jz_ready.proofs.laws.unrolled_bodies_are_ready.Goals as goal

pub returns-clause-bodies : goal.returns-clause-bodies
returns-clause-bodies c = ready_law

pub returns-clause-entries : goal.returns-clause-entries
returns-clause-entries c = entry_law
