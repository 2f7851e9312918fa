use Rattle.std.proofs.Common.{◌≡◌, ◌++◌, not, length}
use Rattle.std.specs.List.{filter, range_with_len}
use Rattle.jz_fit.specs.InnerWants.{is_needed, wanted_at}
use Rattle.jz_fit.proofs.wants.place_order.Given as goal

abbrev pub invariant-loop-variable : goal.invariant-loop-variable
invariant-loop-variable l = l.order.items ≡ filter (λ v. is_needed (wanted_at l.wants v)) (range_with_len 0 l.variable)

abbrev pub invariant-loop-variable-2 : goal.invariant-loop-variable-2
invariant-loop-variable-2 l =
    l.order.items ≡ filter (λ v. is_needed (wanted_at l.wants v)) (range_with_len 0 (length l.wants)) ++ filter (λ v. not (is_needed (wanted_at l.wants v))) (range_with_len 0 l.variable)
