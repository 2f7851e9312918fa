use Rattle.jz_type_names.specs.Tables.{item_in}
use Rattle.jz_type_names.proofs.TableLaws.{table_shown}
use Rattle.jz_type_names.proofs.tables.Functions.add.Goals as goal

pub returns : goal.returns
returns c = λ fs held. record {
  named = table_shown (λ f. f.name) (λ f. f.now) fs (item_in c.args.self.now.functions) (item_in c.add.new.self) c.args.fun held.named c.in_ok-add.ensures;
}
