use Rattle.jz_type_names.specs.Tables.{item_in}
use Rattle.jz_type_names.proofs.TableLaws.{table_more}
use Rattle.jz_type_names.proofs.tables.Places.add.Goals as goal

pub returns : goal.returns
returns c = λ ns held. record {
  first = table_more (λ m. m.0) (λ m. m.1) ns (c.args.name.now, c.args.span) (item_in c.args.self.now.places) (item_in c.add.new.self) held.first c.in_ok-add.ensures;
}
