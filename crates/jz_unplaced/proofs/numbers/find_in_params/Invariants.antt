use Rattle.std.proofs.Common.{◌≡◌, ◌+◌, length, map, take}
use Rattle.std.specs.List.{flat_map}
use Rattle.jz_tree.specs.declared.program.Param.{Param}
use Rattle.jz_declared.specs.Declared.{held_for}
use Rattle.jz_unplaced.proofs.numbers.find_in_params.Given as goal

abbrev pub invariant-loop-param : goal.invariant-loop-param
invariant-loop-param l =
    l.number ≡ length (flat_map held_for (take l.param-index (map (λ (p : Param). p.var) l.params))) + l.rest
