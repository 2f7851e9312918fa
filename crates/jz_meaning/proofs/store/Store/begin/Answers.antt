use Rattle.std.proofs.Common.{◌≡◌, Some, ap, sym, ◌∙◌}
use Rattle.std.specs.Prelude.{option_map}
use Rattle.std.specs.Map.{lookup}
use Rattle.std.specs.Str.{bytes_eq}
use Rattle.indexmap.specs.IndexMap.{get}
use Rattle.jz_meaning.specs.States.{as_value}
use Rattle.jz_meaning.specs.Stores.{same_place, flat, value_at}
use Rattle.jz_meaning.proofs.StoreLemmas.{written}
use Rattle.jz_meaning.proofs.store.Store.begin.Goals as goal

pub returns : goal.returns
returns c =
    let same : c.in_ok-clone.field-0 ≡ c.args.name.now = sym c.in_ok-clone.ensures.cases in
    written (get bytes_eq c.args.self.now.names) (get bytes_eq c.insert-2.new.self) c.new-places.result c.insert.new.self c.args.name.now c.args.place (Some c.args.value)
    (rw same at c.in_ok-insert-2.ensures.updates.0)
    c.in_ok-insert.ensures.updates.0
    (λ q. ap (value_at q) c.requires ∙ sym (ap (λ es. option_map as_value (flat (lookup (same_place q) es))) c.new-places.ensures.empty))
