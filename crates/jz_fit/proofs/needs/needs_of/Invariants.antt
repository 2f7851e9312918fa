use Rattle.std.proofs.Common.{◌≡◌, drop, []}
use Rattle.jz_alloc.specs.InnerNeeds.{need_list}
use Rattle.jz_fit.specs.InnerAnswers.{Ascend}
use Rattle.jz_fit.proofs.needs.needs_of.Given as goal

abbrev pub invariant-loop-op : goal.invariant-loop-op
invariant-loop-op l = (need_list l.variable (drop l.op-index l.ops) l.needs.items ≡ need_list l.variable l.ops []) × Ascend l.needs.items
