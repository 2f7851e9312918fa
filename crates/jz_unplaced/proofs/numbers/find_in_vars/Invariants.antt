use Rattle.std.proofs.Common.{◌≡◌, ◌+◌, length, take}
use Rattle.std.specs.List.{flat_map}
use Rattle.jz_declared.specs.Declared.{held_for}
use Rattle.jz_unplaced.proofs.numbers.find_in_vars.Given as goal

abbrev pub invariant-loop-var : goal.invariant-loop-var
invariant-loop-var l =
    l.number ≡ length (flat_map held_for (take l.var-index l.vars)) + l.rest
