use Rattle.std.proofs.Common.{◌≡◌, map, take}
use Rattle.jz_change.specs.Composing.{number_by}
use Rattle.jz_change.proofs.numbers.these_by.Given as goal

abbrev pub invariant-loop-one : goal.invariant-loop-one
invariant-loop-one l = l.all.items ≡ map (number_by l.numbers) (take l.one-index l.these)
