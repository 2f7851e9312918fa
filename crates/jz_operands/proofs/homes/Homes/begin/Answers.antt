use Rattle.std.proofs.Common.{◌≡◌, Some, ap, sym, ◌∙◌}
use Rattle.std.specs.Map.{lookup}
use Rattle.std.specs.Str.{bytes_eq}
use Rattle.indexmap.specs.IndexMap.{get}
use Rattle.jz_operands.specs.TableHomes.{same_place, entry_in}
use Rattle.jz_operands.proofs.TableLemmas.{written}
use Rattle.jz_operands.proofs.homes.Homes.begin.Goals as goal

pub returns : goal.returns
returns c =
    let same : c.in_ok-clone.field-0 ≡ c.args.name.now = sym c.in_ok-clone.ensures.cases in
    written (get bytes_eq c.args.self.now.names) (get bytes_eq c.insert-2.new.self) c.new-places.result c.insert.new.self c.args.name.now c.args.place (Some c.args.home)
    (rw same at c.in_ok-insert-2.ensures.updates.0)
    c.in_ok-insert.ensures.updates.0
    (λ q. ap (entry_in q) c.requires ∙ sym (ap (lookup (same_place q)) c.new-places.ensures.empty))
