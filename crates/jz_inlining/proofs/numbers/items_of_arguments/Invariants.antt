use Rattle.std.proofs.Common.{◌≡◌, ◌++◌, drop, length}
use Rattle.jz_inline.specs.Calls.{argument_items}
use Rattle.jz_inlining.proofs.numbers.items_of_arguments.Given as goal

abbrev pub invariant-loop-i : goal.invariant-loop-i
invariant-loop-i l = l.items ++ argument_items (length l.all.items) (drop l.i l.params) (drop l.i l.args) ≡ argument_items 0 l.params l.args
