use Rattle.std.proofs.Common.{Some, IsSome, refl, ap, sym, subst}
use Rattle.std.specs.Str.{bytes_eq}
use Rattle.indexmap.specs.IndexMap.{get}
use Rattle.jz_operands.specs.TableHomes.{entry_in}
use Rattle.jz_operands.proofs.TableLemmas.{written}
use Rattle.jz_operands.proofs.homes.Homes.put.Goals as goal

pub returns-in-Some : goal.returns-in-Some
returns-in-Some c =
    written (get bytes_eq c.args.self.now.names) (get bytes_eq (c.get_mut.follows.lender c.insert.new.self)) c.in-Some.places.now c.insert.new.self c.args.name.now
    (record { copy = c.args.copy; cell = c.args.cell }) (Some c.args.home)
    ((c.get_mut.follows.holds c.insert.new.self).3 (subst IsSome c.in-Some.ensures.value refl)).0
    c.in_ok-insert-in-Some.ensures.updates.0
    (λ q. ap (entry_in q) (sym c.in-Some.ensures.value))
