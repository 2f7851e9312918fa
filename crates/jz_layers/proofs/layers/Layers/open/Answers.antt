use Rattle.std.proofs.Common.{ap, sym, subst, ◌∙◌, ◌∷◌, Option}
use Rattle.std.specs.Prelude.{is_ok}
use Rattle.jz_layers.specs.Spots.{Spot, nowhere, seen_in, over, AreListed}
use Rattle.jz_layers.proofs.TableLemmas.{none_in, over_none, seen_more}
use Rattle.jz_layers.proofs.Listing.{listed_opened}
use Rattle.jz_layers.proofs.layers.Layers.open.Goals as goal

pub returns-clause-seen : goal.returns-clause-seen
returns-clause-seen g c =
    over_none c.replace-table.new.dest (seen_in c.push.new.self.items) (none_in c.replace-table.new.dest (ap (λ m. m.entries) c.replace-table.ensures.after ∙ c.new.ensures.empty))
    ∙ ap (λ ms. seen_in ms) c.in_ok-push.ensures.items
    ∙ seen_more nowhere c.args.self.now.below.items c.replace-table.result
    ∙ ap {B = Spot → Option g.row.V.Denot} (λ m. over m (seen_in c.args.self.now.below.items)) c.replace-table.ensures.value

pub returns-clause-empty : goal.returns-clause-empty
returns-clause-empty g c = none_in c.replace-table.new.dest (ap (λ m. m.entries) c.replace-table.ensures.after ∙ c.new.ensures.empty)

pub invariant_of-self : goal.invariant_of-self
invariant_of-self g c =
    let s = c.args.self.now in
    record {
      listed = listed_opened s.noted c.replace-table.result c.replace-table.new.dest s.below.items c.push.new.self.items (is_ok c.push.result) c.push.ensures.items
          (none_in c.replace-table.new.dest (ap (λ m. m.entries) c.replace-table.ensures.after ∙ c.new.ensures.empty))
          (subst (λ m. AreListed s.noted (m ∷ s.below.items)) (sym c.replace-table.ensures.value) s.listed);
      held = s.held;
    }
