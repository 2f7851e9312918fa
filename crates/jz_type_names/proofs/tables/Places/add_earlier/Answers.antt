use Rattle.std.proofs.Common.{rules}
use Rattle.jz_type_names.specs.Tables.{item_in}
use Rattle.jz_type_names.proofs.TableLaws.{earliest_more}
use Rattle.jz_type_names.proofs.tables.Places.add_earlier.Goals as goal

pub returns : goal.returns
returns c = λ ns held. record {
  earliest = earliest_more (item_in c.args.self.now.places) (item_in c.put.new.self) ns c.args.name.now c.args.span c.sooner-first.result held.earliest (search rules) c.in_ok-put.ensures;
}
