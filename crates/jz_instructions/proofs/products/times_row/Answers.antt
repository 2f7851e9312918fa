use Rattle.jz_tree.specs.declared.expr.BinOp.TheVariants as op
use Rattle.jz_tree.specs.declared.expr.Expr.TheVariants as expr
use Rattle.jz_instructions.proofs.ProductLemmas.{times_is, times_never}
use Rattle.jz_instructions.proofs.products.times_row.Goals as goal

pub returns-in-None : goal.returns-in-None
returns-in-None c = λ at. times_never c.args.target.now c.args.first.now c.args.second.now at (c.in-None.ensures at)

pub returns-in-Some : goal.returns-in-Some
returns-in-Some c = λ at.
    times_is c.args.target.now (expr.Bin op.Mul c.args.first.now c.args.second.now at) c.in-Some.row c.acts_in.result (c.in-Some.ensures at) c.acts_in.ensures.actions c.acts_in.ensures.items
