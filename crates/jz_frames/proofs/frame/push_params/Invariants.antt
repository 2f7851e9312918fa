use Rattle.std.proofs.Common.{◌≡◌, ◌++◌, drop}
use Rattle.jz_inline.specs.CopiedNames.{names_of}
use Rattle.jz_frames.specs.Frames.{own_params}
use Rattle.jz_frames.proofs.frame.push_params.Given as goal

abbrev pub invariant-loop-param : goal.invariant-loop-param
invariant-loop-param l = l.out ++ own_params (names_of l.names) (drop l.param-index l.param-items) ≡ l.initial.out ++ own_params (names_of l.names) l.params
