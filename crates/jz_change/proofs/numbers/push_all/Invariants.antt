use Rattle.std.proofs.Common.{◌≡◌, ◌++◌, map, take}
use Rattle.jz_change.specs.Composing.{numbers_by}
use Rattle.jz_change.proofs.numbers.push_all.Given as goal

abbrev pub invariant-loop-one : goal.invariant-loop-one
invariant-loop-one l = l.out.items ≡ l.initial.out.items ++ map (numbers_by l.first) (take l.one-index l.one-items)
