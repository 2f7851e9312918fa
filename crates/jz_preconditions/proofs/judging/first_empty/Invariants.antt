use Rattle.std.proofs.Common.{◌≡◌, drop}
use Rattle.jz_type_names.specs.Order.{earlier, first_in}
use Rattle.jz_preconditions.specs.Refusals.{empty_places}
use Rattle.jz_preconditions.proofs.judging.first_empty.Given as goal

abbrev pub invariant-loop-one : goal.invariant-loop-one
invariant-loop-one l =
    earlier l.first (first_in empty_places (drop l.one-index l.one-items)) ≡ first_in empty_places l.one-items
