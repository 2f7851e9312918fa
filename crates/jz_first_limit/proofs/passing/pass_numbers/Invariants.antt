use Rattle.std.proofs.Common.{◌≡◌, drop}
use Rattle.jz_limits.specs.InnerKnown.{numbers_of}
use Rattle.jz_limits.specs.Walks.{with_arguments}
use Rattle.jz_first_limit.proofs.passing.pass_numbers.Given as goal

abbrev pub invariant-loop-i : goal.invariant-loop-i
invariant-loop-i l =
    with_arguments (numbers_of l.known) (drop l.i l.params) (drop l.i l.args) (numbers_of l.inner)
    ≡ with_arguments (numbers_of l.known) l.params l.args (numbers_of l.fn.inner)
