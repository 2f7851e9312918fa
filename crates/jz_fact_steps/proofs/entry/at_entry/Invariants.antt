use Rattle.std.proofs.Common.{◌≡◌}
use Rattle.jz_fact_sets.specs.Kept.{known_at}
use Rattle.jz_fact_steps.proofs.AtEntry.{EnteredTo}
use Rattle.jz_fact_steps.proofs.entry.at_entry.Given as goal

abbrev pub invariant-loop-param : goal.invariant-loop-param
invariant-loop-param l = (l.index ≡ l.param-index) × EnteredTo l.given l.param-index (known_at l.set)
