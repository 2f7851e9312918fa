use Rattle.jz_block_facts.proofs.LaidFacts.{over_facts}
use Rattle.jz_block_facts.proofs.laying.taken.Goals as goal

pub returns-clause-facts : goal.returns-clause-facts
returns-clause-facts c g = over_facts g c.args.set.now c.close-table.new.self c.close-table.result c.close-table.ensures.table c.close-table.ensures.below
