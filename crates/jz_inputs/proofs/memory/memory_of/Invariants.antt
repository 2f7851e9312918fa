use Rattle.std.proofs.Common.{take}
use Rattle.jz_preconditions.specs.Meeting.{regions_of, names_of}
use Rattle.jz_inputs.specs.InnerFilled.{is_in_one, IsFilled}
use Rattle.jz_inputs.proofs.memory.memory_of.Given as goal

abbrev pub invariant-loop-pre : goal.invariant-loop-pre
invariant-loop-pre l =
    IsFilled l.fn.items (is_in_one (regions_of (names_of l.fn.fun) (take l.pre-index l.pre-items) l.fn.words)) l.memory
