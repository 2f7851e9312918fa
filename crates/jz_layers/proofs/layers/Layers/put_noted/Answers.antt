use Rattle.jz_layers.specs.Spots.{spot_of, seen_in}
use Rattle.jz_layers.proofs.TableLemmas.{put_is, over_put}
use Rattle.jz_layers.proofs.Listing.{listed_insert}
use Rattle.jz_layers.proofs.layers.Layers.put_noted.Goals as goal

pub returns-clause-put : goal.returns-clause-put
returns-clause-put g c =
    over_put (seen_in c.args.self.now.below.items) c.args.self.now.top c.insert.new.self (spot_of c.args.named) c.args.value
    (put_is c.args.self.now.top c.insert.new.self c.args.named c.args.value c.in_ok-insert.ensures.updates.0)

pub invariant_of-self : goal.invariant_of-self
invariant_of-self g c =
    let s = c.args.self.now in
    record {
      listed = listed_insert s.noted c.insert.result s.top c.insert.new.self s.below.items c.args.named c.args.value c.insert.ensures.updates c.insert.ensures.err c.requires s.listed;
      held = s.held;
    }
