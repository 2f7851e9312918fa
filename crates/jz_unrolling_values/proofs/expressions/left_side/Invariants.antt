use Rattle.std.proofs.Common.{◌≡◌}
use Rattle.jz_unrolling_values.specs.Parts.{on_left}
use Rattle.jz_unrolling_values.proofs.expressions.left_side.Given as goal

abbrev pub invariant-loop-first : goal.invariant-loop-first
invariant-loop-first l = on_left l.waiting.items l.first ≡ l.expr
