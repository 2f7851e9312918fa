use Rattle.jz_layers.specs.Spots.{spot_of, seen_in}
use Rattle.std.proofs.Common.{◌∷◌}
use Rattle.jz_layers.proofs.TableLemmas.{put_is, over_put}
use Rattle.jz_layers.proofs.Listing.{listed_insert, all_listed_more}
use Rattle.jz_layers.proofs.Holding.{held_noted}
use Rattle.jz_layers.proofs.layers.Layers.put.Goals as goal

pub returns-clause-table : goal.returns-clause-table
returns-clause-table g c = put_is c.args.self.now.top c.insert.new.self c.args.named c.args.value c.in_ok-insert.ensures.updates.0

pub returns-clause-put : goal.returns-clause-put
returns-clause-put g c =
    over_put (seen_in c.args.self.now.below.items) c.args.self.now.top c.insert.new.self (spot_of c.args.named) c.args.value
    (put_is c.args.self.now.top c.insert.new.self c.args.named c.args.value c.in_ok-insert.ensures.updates.0)

pub invariant_of-self-2 : goal.invariant_of-self-2
invariant_of-self-2 g c =
    let s = c.args.self.now in
    record {
      listed = listed_insert c.note.new.noted c.insert.result s.top c.insert.new.self s.below.items c.args.named c.args.value c.insert.ensures.updates c.insert.ensures.err c.in_ok-note.ensures.there
          (all_listed_more s.noted c.note.new.noted c.note.ensures.grows (s.top ∷ s.below.items) s.listed);
      held = held_noted s.noted c.note.new.noted s.arrays c.hold.new.arrays c.args.named c.note.ensures.alone c.hold.ensures.grows c.in_ok-hold.ensures.there s.held;
    }

pub invariant_of-self-in-Break-branch-2 : goal.invariant_of-self-in-Break-branch-2
invariant_of-self-in-Break-branch-2 g c =
    let s = c.args.self.now in
    record {
      listed = all_listed_more s.noted c.note.new.noted c.note.ensures.grows (s.top ∷ s.below.items) s.listed;
      held = held_noted s.noted c.note.new.noted s.arrays c.hold.new.arrays c.args.named c.note.ensures.alone c.hold.ensures.grows c.in_ok-hold.ensures.there s.held;
    }
