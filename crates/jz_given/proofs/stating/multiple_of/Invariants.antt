use Rattle.std.proofs.Common.{◌≡◌, drop}
use Rattle.jz_preconditions.specs.Bounds as bounds
use Rattle.jz_given.proofs.stating.multiple_of.Given as goal

abbrev pub invariant-loop-pre : goal.invariant-loop-pre
invariant-loop-pre l = bounds.multiple_of (drop l.pre-index l.pre-items) l.param ≡ bounds.multiple_of l.pre-items l.param
