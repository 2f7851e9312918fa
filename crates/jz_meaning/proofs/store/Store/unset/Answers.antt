use Rattle.std.proofs.Common.{None, IsSome, refl, ap, sym, subst}
use Rattle.std.specs.Str.{bytes_eq}
use Rattle.indexmap.specs.IndexMap.{get}
use Rattle.jz_meaning.specs.Stores.{value_at}
use Rattle.jz_meaning.proofs.StoreLemmas.{written}
use Rattle.jz_meaning.proofs.store.Store.unset.Goals as goal

pub returns-in-Some : goal.returns-in-Some
returns-in-Some c =
    written (get bytes_eq c.args.self.now.names) (get bytes_eq (c.get_mut.follows.lender c.swap_remove.new.self)) c.in-Some.places.now c.swap_remove.new.self c.args.name.now
    (record { copy = c.args.copy; cell = c.args.cell }) None
    ((c.get_mut.follows.holds c.swap_remove.new.self).3 (subst IsSome c.in-Some.ensures.value refl)).0
    c.swap_remove.ensures.updates.0
    (λ q. ap (value_at q) (sym c.in-Some.ensures.value))
