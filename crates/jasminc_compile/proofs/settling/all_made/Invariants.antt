use Rattle.jasminc_compile.proofs.Choosing.{AreLeft}
use Rattle.jasminc_compile.proofs.settling.all_made.Given as goal

abbrev pub invariant-loop-outcome : goal.invariant-loop-outcome
invariant-loop-outcome l = AreLeft l.fn.outcomes l.all l.outcome-iterator.rest.items
