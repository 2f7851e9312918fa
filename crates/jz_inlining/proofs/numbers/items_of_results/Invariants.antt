use Rattle.std.proofs.Common.{◌≡◌, ◌++◌, drop, length}
use Rattle.jz_inline.specs.Calls.{result_items}
use Rattle.jz_inlining.proofs.numbers.items_of_results.Given as goal

abbrev pub invariant-loop-i : goal.invariant-loop-i
invariant-loop-i l = l.items ++ result_items (length l.all.items) (drop l.i l.to) (drop l.i l.vars) ≡ result_items 0 l.to l.vars
