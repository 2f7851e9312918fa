use Rattle.std.proofs.Common.{◌≡◌, ◌++◌, not}
use Rattle.std.specs.List.{filter, range_with_len}
use Rattle.jz_ir.specs.Places.{has_need}
use Rattle.jz_alloc.proofs.order.place_order.Given as goal

abbrev pub invariant-loop-variable : goal.invariant-loop-variable
invariant-loop-variable l = l.order.items ≡ filter (has_need l.ops) (range_with_len 0 l.variable)

abbrev pub invariant-loop-variable-2 : goal.invariant-loop-variable-2
invariant-loop-variable-2 l = l.order.items ≡ filter (has_need l.ops) (range_with_len 0 l.count) ++ filter (λ v. not (has_need l.ops v)) (range_with_len 0 l.variable)
