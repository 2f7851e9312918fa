use Rattle.std.proofs.Common.{◌∙◌, [], sym, subst}
use Rattle.jz_alloc.specs.InnerNeeds.{need_list}
use Rattle.jz_fit.specs.InnerAnswers.{Ascend}
use Rattle.jz_fit.proofs.Searching.{more_ops, adds_ascend}
use Rattle.jz_fit.proofs.needs.needs_of.Goals as goal

pub loop-op-preserved : goal.loop-op-preserved
loop-op-preserved c = (
  more_ops c.args.variable c.args.ops.now c.loop-op.op-index c.op-item.result c.loop-op.needs.items c.add_all.new.needs.items (need_list c.args.variable c.args.ops.now []) c.loop-op-test.true c.op-item.is c.loop-op.invariant.0 c.in_ok-add_all.ensures,
  subst Ascend (sym c.in_ok-add_all.ensures) (adds_ascend c.args.variable c.op-item.result.needs c.loop-op.needs.items c.loop-op.invariant.1),
)
