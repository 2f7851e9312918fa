use Rattle.std.proofs.Common.{◌≡◌, drop}
use Rattle.jz_tree.specs.Span.{Span}
use Rattle.jz_limits.specs.InnerKnown.{numbers_of}
use Rattle.jz_limits.specs.InnerLooked.{first}
use Rattle.jz_limits.specs.Walks.{argument_limits}
use Rattle.jz_first_limit.proofs.passing.ask_arguments.Given as goal

abbrev pub invariant-loop-i : goal.invariant-loop-i
invariant-loop-i l =
    (at : Span)
    → first (argument_limits (numbers_of l.known) at (drop l.i l.params) (drop l.i l.args))
    ≡ first (argument_limits (numbers_of l.known) at l.params l.args)
