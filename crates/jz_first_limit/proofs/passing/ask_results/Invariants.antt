use Rattle.std.proofs.Common.{◌≡◌, drop}
use Rattle.jz_tree.specs.Span.{Span}
use Rattle.jz_limits.specs.InnerKnown.{numbers_of}
use Rattle.jz_limits.specs.InnerLooked.{first}
use Rattle.jz_limits.specs.Walks.{result_limits}
use Rattle.jz_first_limit.proofs.passing.ask_results.Given as goal

abbrev pub invariant-loop-i : goal.invariant-loop-i
invariant-loop-i l =
    (at : Span)
    → first (result_limits (numbers_of l.known) at (drop l.i l.to) (drop l.i l.results))
    ≡ first (result_limits (numbers_of l.known) at l.to l.results)
