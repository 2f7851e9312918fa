use Rattle.jz_type_storage.specs.Paths.{reading_expr}
use Rattle.jz_type_storage.specs.InnerWalks.{members}
use Rattle.jz_type_storage.proofs.Walking.{turn_more, idle_expr}
use Rattle.jz_type_storage.proofs.reads.in_all.Goals as goal

pub loop-expr-preserved : goal.loop-expr-preserved
loop-expr-preserved c =
    turn_more (members c.args.asked.now.keys) reading_expr (idle_expr (members c.args.asked.now.keys)) (members c.args.set.now.keys) c.args.exprs.now c.loop-expr.expr-index c.expr-item.result
    c.loop-expr.best c.earlier_of-best.result c.in_ok-in_expr.field-0 _ c.loop-expr-test.true c.expr-item.is c.in_ok-in_expr.ensures c.earlier_of-best.ensures.is c.loop-expr.invariant
