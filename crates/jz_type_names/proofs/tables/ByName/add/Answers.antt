use Rattle.std.proofs.Common.{rules}
use Rattle.jz_type_names.specs.Tables.{item_in}
use Rattle.jz_type_names.proofs.TableLaws.{named_anew, named_before}
use Rattle.jz_type_names.proofs.tables.ByName.add.Goals as goal

pub returns-in_ok-insert : goal.returns-in_ok-insert
returns-in_ok-insert g c = named_anew (item_in c.args.self.now) c.args.name.now c.args.item (item_in (record { items = c.insert.new.self })) (search rules) (search rules)

pub returns-else-not-contains_key : goal.returns-else-not-contains_key
returns-else-not-contains_key g c = named_before (item_in c.args.self.now) c.args.name.now c.args.item (search rules)
