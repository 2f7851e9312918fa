use Rattle.jz_layers.specs.Spots.{spot_of}
use Rattle.jz_layers.proofs.TableLemmas.{put_is}
use Rattle.jz_layers.proofs.Listing.{note_grows, note_there}
use Rattle.jz_layers.proofs.Holding.{put_alone}
use Rattle.jz_layers.proofs.layers.note.Goals as goal

pub returns-clause-there : goal.returns-clause-there
returns-clause-there c =
    note_there c.args.noted.now c.insert.new.self (spot_of c.args.named) tt
    (put_is c.args.noted.now c.insert.new.self c.args.named tt c.in_ok-insert.ensures.updates.0)

pub returns-clause-grows : goal.returns-clause-grows
returns-clause-grows c =
    note_grows c.args.noted.now c.insert.new.self (spot_of c.args.named) tt
    (put_is c.args.noted.now c.insert.new.self c.args.named tt c.in_ok-insert.ensures.updates.0)

pub returns-clause-alone : goal.returns-clause-alone
returns-clause-alone c =
    put_alone c.args.noted.now c.insert.new.self (spot_of c.args.named) tt
    (put_is c.args.noted.now c.insert.new.self c.args.named tt c.in_ok-insert.ensures.updates.0)
