use Rattle.jz_fact_sets.specs.Kept.{known_at}
use Rattle.jz_block_facts.proofs.LaidFacts.{both_met}
use Rattle.jz_block_facts.proofs.laying.meet_both.Goals as goal

pub returns-clause-facts : goal.returns-clause-facts
returns-clause-facts c g d = both_met g c.args.a.now c.args.b.now (known_at c.args.set.now) (known_at c.meet.new.set) d c.in_ok-meet.ensures.known
