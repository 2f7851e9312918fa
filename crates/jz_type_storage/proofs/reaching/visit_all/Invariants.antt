use Rattle.std.proofs.Common.{take}
use Rattle.jz_type_storage.specs.InnerNumbers.{VisitsAll}
use Rattle.jz_type_storage.proofs.reaching.visit_all.Given as goal

abbrev pub invariant-loop-at : goal.invariant-loop-at
invariant-loop-at l =
    VisitsAll l.initial.found.marks.items l.initial.found.order.items l.found.marks.items l.found.order.items (take l.at-index l.all)
