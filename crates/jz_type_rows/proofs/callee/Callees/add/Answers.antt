use Rattle.std.proofs.Common.{Some, ap, ◌∙◌}
use Rattle.jz_type_names.specs.Scopes.{or_named}
use Rattle.jz_type_names.specs.Tables.{item_in}
use Rattle.jz_type_names.proofs.TableLaws.{table_more}
use Rattle.jz_type_rows.specs.Callees.{callee_of}
use Rattle.jz_type_rows.proofs.callee.Callees.add.Goals as goal

pub returns : goal.returns
returns c =
    let fun = c.args.fun.now
    in let old = item_in c.args.self.now.callees
    in λ fs held. record {
      first = table_more (λ f. f.name) callee_of fs fun old (item_in c.add.new.self) held.first
          (c.in_ok-add.ensures ∙ ap (λ callee. or_named old fun.name (Some callee)) c.in_ok-callee.ensures);
    }
