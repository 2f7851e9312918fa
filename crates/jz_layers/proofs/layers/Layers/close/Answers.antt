use Rattle.jz_layers.proofs.Listing.{listed_closed}
use Rattle.jz_layers.proofs.layers.Layers.close.Goals as goal

pub invariant_of-self : goal.invariant_of-self
invariant_of-self g c =
    let s = c.args.self.now in
    record {
      listed = listed_closed s.noted s.top c.in-Some.table c.replace.new.dest s.below.items c.pop.new.self.items c.in-Some.ensures.items c.replace.ensures.after s.listed;
      held = s.held;
    }
