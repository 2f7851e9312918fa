use Rattle.jz_type_names.specs.Tables.{item_in}
use Rattle.jz_type_rows.proofs.TableLaws.{places_more}
use Rattle.jz_type_rows.proofs.tables.add_place.Goals as goal

pub returns : goal.returns
returns c = λ ns long held. record {
  first = places_more ns c.args.name.now (item_in c.args.places.now) (item_in c.add.new.self) c.args.place long held.first c.in_ok-add.ensures;
}
