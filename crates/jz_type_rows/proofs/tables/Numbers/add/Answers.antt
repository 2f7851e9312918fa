use Rattle.std.proofs.Common.{rules, nat_eq}
use Rattle.jz_type_rows.proofs.TableLaws.{set_more, nat_eq-true}
use Rattle.jz_type_rows.proofs.tables.Numbers.add.Goals as goal

pub returns : goal.returns
returns c = λ ns held. record {
  has = λ k. set_more nat_eq nat_eq-true c.args.self.now.numbers.keys ns c.args.number c.insert.new.self.keys (search rules) k (held.has k);
}
