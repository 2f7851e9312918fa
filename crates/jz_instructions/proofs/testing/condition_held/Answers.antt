use Rattle.jz_operands.specs.TableHomes.{homes_of}
use Rattle.jz_instructions.proofs.TestLemmas.{flag_finds}
use Rattle.jz_instructions.proofs.testing.condition_held.Goals as goal

pub returns-in-Some : goal.returns-in-Some
returns-in-Some c = c.comparison_held.ensures (homes_of c.args.homes.now) c.args.condition.now c.in-Some.ensures

pub returns-in-None : goal.returns-in-None
returns-in-None c = flag_finds (homes_of c.args.homes.now) c.args.condition.now c.flag_held.result c.in-None.ensures c.flag_held.ensures
