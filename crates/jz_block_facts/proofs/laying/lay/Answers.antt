use Rattle.jz_block_facts.proofs.LaidFacts.{poured}
use Rattle.jz_block_facts.proofs.laying.lay.Goals as goal

pub returns-clause-facts : goal.returns-clause-facts
returns-clause-facts c g = poured g c.args.table.now c.args.set.now c.pour.new.self c.in_ok-pour.ensures.seen
