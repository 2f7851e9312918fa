use Rattle.std.proofs.Common.{rules, subst, sym}
use Rattle.jz_type_storage.specs.InnerNumbers.{VisitsAll}
use Rattle.std.proofs.Common.{[], ◌∷◌, slice_set, true, List, ℕ}
use Rattle.jz_type_storage.proofs.Spread.{found_new}
use Rattle.jz_type_storage.proofs.reaching.visit.Goals as goal

pub returns : goal.returns
returns c =
    let e = c.in_ok-push.ensures.items in
    subst (λ (o : List ℕ). VisitsAll c.args.found.now.marks.items c.args.found.now.order.items (slice_set c.args.found.now.marks.items c.args.at true) o (c.args.at ∷ []))
    (sym e) (found_new c.args.found.now.marks.items c.args.found.now.order.items c.args.at c.requires.consistent c.requires.within (search rules))
