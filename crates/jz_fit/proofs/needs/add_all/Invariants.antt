use Rattle.std.proofs.Common.{◌≡◌, drop}
use Rattle.jz_alloc.specs.InnerNeeds.{add_needs}
use Rattle.jz_fit.specs.InnerAnswers.{Ascend}
use Rattle.jz_fit.proofs.needs.add_all.Given as goal

abbrev pub invariant-loop-need : goal.invariant-loop-need
invariant-loop-need l = (add_needs l.variable (drop l.need-index l.need-items) l.needs.items ≡ add_needs l.variable l.need-items l.initial.needs.items) × Ascend l.needs.items
