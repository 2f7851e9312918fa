use Rattle.jz_tree.specs.declared.expr.Expr.TheViews.{out-Var}
use Rattle.jz_type_names.specs.Tables.{item_in}
use Rattle.jz_type_names.proofs.TableLaws.{table_shown}
use Rattle.jz_preconditions.proofs.parameters.Parameters.add.Goals as goal

pub returns : goal.returns
returns c = λ vs held. record {
  named = table_shown (λ v. (out-Var v).name) (λ v. v.now) vs (item_in c.args.self.now.variables) (item_in c.add.new.self) c.args.var held.named c.in_ok-add.ensures;
}
