use Rattle.jz_layers.specs.Spots.{spot_of}
use Rattle.jz_layers.proofs.TableLemmas.{put_is}
use Rattle.jz_layers.proofs.Holding.{put_grows}
use Rattle.jz_layers.proofs.layers.hold.Goals as goal

pub returns-clause-grows : goal.returns-clause-grows
returns-clause-grows c =
    put_grows c.args.arrays.now c.insert.new.self (spot_of c.whole.result) tt
    (put_is c.args.arrays.now c.insert.new.self c.whole.result tt c.in_ok-insert.ensures.updates.0)
