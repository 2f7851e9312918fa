use Rattle.jz_operands.specs.TableHomes.{homes_of}
use Rattle.jz_instructions.proofs.AddressLemmas.{based_is, lea_finds}
use Rattle.jz_instructions.proofs.addressing.lea_address.Goals as goal

pub returns-in-Some : goal.returns-in-Some
returns-in-Some c = based_is (homes_of c.args.homes.now) c.args.at.now c.in-Some.address c.in-Some.ensures

pub returns-in-None : goal.returns-in-None
returns-in-None c = lea_finds (homes_of c.args.homes.now) c.args.at.now c.free_address.result c.in-None.ensures c.free_address.ensures
