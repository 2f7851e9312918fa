use Rattle.std.proofs.Common.{◌+◌, ◌*◌, drop}
use Rattle.jz_type_names.specs.Lent.{these}
use Rattle.jz_inline.specs.CopiedNames.{names_of}
use Rattle.jz_frames.specs.InnerFrames.{calls_from}
use Rattle.jz_frames.proofs.Merging.{IsBegun}
use Rattle.jz_frames.proofs.frame.+frame.Given as goal

abbrev pub decreases-push_frame : goal.decreases-push_frame
decreases-push_frame l = 2 * l.left + 1

abbrev pub decreases-push_call : goal.decreases-push_call
decreases-push_call l = 2 * l.left

abbrev pub invariant-push_frame-loop-stmt : goal.invariant-push_frame-loop-stmt
invariant-push_frame-loop-stmt l =
    IsBegun l.walk.callable.funs.now l.left (names_of l.names) l.fun l.initial.out l.out (drop l.declared l.fun.vars) (calls_from l.walk.callable.funs.now l.left (these l.stmt-iterator.rest.items))
