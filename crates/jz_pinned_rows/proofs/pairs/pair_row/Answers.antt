use Rattle.std.proofs.Common.{rules, sym, subst}
use Rattle.jz_operands.specs.TableHomes.{homes_of}
use Rattle.jz_tree.specs.declared.expr.Expr.TheOpen.{Expr-F}
use Rattle.jz_flag_rows.specs.Rows.{IsSumLayer}
use Rattle.jz_pinned_rows.proofs.PairLemmas.{carries_pair, product_pair, no_pair_op, no_pair}
use Rattle.jz_pinned_rows.proofs.pairs.pair_row.Goals as goal

pub returns-in-Mul : goal.returns-in-Mul
returns-in-Mul c =
    product_pair (homes_of c.args.homes.now) c.args.size c.args.first.now c.args.second.now c.args.value.now c.in-Bin.a c.in-Bin.b c.get.result.now c.get-in-Mul.result.now c.in-Bin.op c.in-Bin.field-3 c.product_row.result c.without_flags.result c.in-Bin.is c.in-Mul.is c.get.ensures c.get-in-Mul.ensures c.without_flags.ensures c.product_row.ensures

pub returns-in-Add : goal.returns-in-Add
returns-in-Add c =
    carries_pair (homes_of c.args.homes.now) c.args.size c.args.first.now c.args.second.now c.args.value.now c.in-Bin.a c.in-Bin.b c.in-Bin.op c.in-Bin.field-3 c.carried_row.result c.in-Bin.is (subst (λ o. IsSumLayer (Expr-F.Bin o c.in-Bin.a c.in-Bin.b c.in-Bin.field-3)) (sym c.in-Add.is) tt) (search rules) c.carried_row.ensures

pub returns-in-Sub : goal.returns-in-Sub
returns-in-Sub c =
    carries_pair (homes_of c.args.homes.now) c.args.size c.args.first.now c.args.second.now c.args.value.now c.in-Bin.a c.in-Bin.b c.in-Bin.op c.in-Bin.field-3 c.carried_row-in-Sub.result c.in-Bin.is (subst (λ o. IsSumLayer (Expr-F.Bin o c.in-Bin.a c.in-Bin.b c.in-Bin.field-3)) (sym c.in-Sub.is) tt) (search rules) c.carried_row-in-Sub.ensures

pub returns-in_default-op : goal.returns-in_default-op
returns-in_default-op c = no_pair_op (homes_of c.args.homes.now) c.args.size c.args.first.now c.args.second.now c.args.value.now c.in-Bin.a c.in-Bin.b c.in-Bin.op c.in-Bin.field-3 c.in-Bin.is (search rules) (search rules) (search rules)

pub returns-in_default : goal.returns-in_default
returns-in_default c = no_pair (homes_of c.args.homes.now) c.args.size c.args.first.now c.args.second.now c.args.value.now (search rules)
