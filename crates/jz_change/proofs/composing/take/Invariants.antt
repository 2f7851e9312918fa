use Rattle.std.proofs.Common.{◌≡◌, ◌++◌, drop}
use Rattle.jz_change.specs.Composing.{first_ops}
use Rattle.jz_change.specs.Views.{steps_of}
use Rattle.jz_change.proofs.composing.take.Given as goal

abbrev pub invariant-loop-numbers : goal.invariant-loop-numbers
invariant-loop-numbers l =
    (l.initial.out.items ++ (first_ops l.before (steps_of (drop l.at l.steps))).items ≡ l.out.items ++ (first_ops (drop l.numbers-index l.numbers-items) (steps_of (drop l.to l.steps))).items)
    × ((first_ops l.before (steps_of (drop l.at l.steps))).rest ≡ (first_ops (drop l.numbers-index l.numbers-items) (steps_of (drop l.to l.steps))).rest)
