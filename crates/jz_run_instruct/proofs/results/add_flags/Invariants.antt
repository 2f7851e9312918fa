use Rattle.std.proofs.Common.{◌≡◌, ◌++◌, take}
use Rattle.jz_meaning.specs.Intrinsics.{all_flags}
use Rattle.jz_run_assign.specs.Answers.{meant_results}
use Rattle.jz_run_instruct.proofs.results.add_flags.Given as goal

abbrev pub invariant-loop-flag : goal.invariant-loop-flag
invariant-loop-flag l = meant_results l.results ≡ meant_results l.fn.results ++ all_flags (take l.flag-index l.flags)
