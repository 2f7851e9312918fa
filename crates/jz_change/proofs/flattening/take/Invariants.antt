use Rattle.std.proofs.Common.{◌≡◌, ◌++◌, drop}
use Rattle.jz_change.specs.Flattening.{first_outs}
use Rattle.jz_change.proofs.flattening.take.Given as goal

abbrev pub invariant-loop-numbers : goal.invariant-loop-numbers
invariant-loop-numbers l =
    (l.initial.outs.items ++ (first_outs l.items (drop l.at l.cases)).outs ≡ l.outs.items ++ (first_outs (drop l.numbers-index l.numbers-items) (drop l.to l.cases)).outs)
    × ((first_outs l.items (drop l.at l.cases)).rest ≡ (first_outs (drop l.numbers-index l.numbers-items) (drop l.to l.cases)).rest)
