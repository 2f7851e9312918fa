use Rattle.std.proofs.Common.{◌≡◌, drop}
use Rattle.jz_meaning.specs.Assignments.{left_sizes}
use Rattle.jz_run_assign.proofs.left.left_sizes.Given as goal

abbrev pub invariant-loop-left : goal.invariant-loop-left
invariant-loop-left l = left_sizes (drop l.left-index l.left-items) ≡ left_sizes l.to
