use Rattle.jz_type_storage.specs.Paths.{reading_left}
use Rattle.jz_type_storage.specs.InnerWalks.{members}
use Rattle.jz_type_storage.proofs.Walking.{turn_more, idle_left}
use Rattle.jz_type_storage.proofs.reads.in_lefts.Goals as goal

pub loop-lval-preserved : goal.loop-lval-preserved
loop-lval-preserved c =
    turn_more (members c.args.asked.now.keys) reading_left (idle_left (members c.args.asked.now.keys)) (members c.args.set.now.keys) c.args.to.now c.loop-lval.lval-index c.lval-item.result
    c.loop-lval.best c.earlier_of-best.result c.in_left.result _ c.loop-lval-test.true c.lval-item.is c.in_left.ensures c.earlier_of-best.ensures.is c.loop-lval.invariant
