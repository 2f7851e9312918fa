use Rattle.std.proofs.Common.{◌≡◌}
use Rattle.jz_integers.specs.InnerLeftSides.{on_left}
use Rattle.jz_integers.proofs.sides.left_side.Given as goal

abbrev pub invariant-loop-first : goal.invariant-loop-first
invariant-loop-first l = on_left l.waiting.items l.first ≡ l.e
