use Rattle.std.proofs.Common.{◌≡◌, ◌++◌, drop, map}
use Rattle.jz_inline.specs.Names.{var_in}
use Rattle.jz_inline.specs.CopiedNames.{names_of}
use Rattle.jz_frames.proofs.frame.push_rest.Given as goal

abbrev pub invariant-loop-at : goal.invariant-loop-at
invariant-loop-at l = l.out ++ map (var_in (names_of l.names)) (drop l.at l.vars) ≡ l.initial.out ++ map (var_in (names_of l.names)) (drop l.from l.vars)
