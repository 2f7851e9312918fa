use Rattle.std.proofs.Common.{rules}
use Rattle.std.specs.Str.{bytes_eq}
use Rattle.jz_tree.proofs.Texts.{bytes_eq-true}
use Rattle.jz_type_rows.proofs.TableLaws.{set_more}
use Rattle.jz_type_rows.proofs.tables.Names.add.Goals as goal

pub returns : goal.returns
returns c = λ ns held. record {
  has = λ k. set_more bytes_eq bytes_eq-true c.args.self.now.texts.keys ns c.args.name.now c.insert.new.self.keys (search rules) k (held.has k);
}
