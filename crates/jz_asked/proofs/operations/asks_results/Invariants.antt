use Rattle.std.proofs.Common.{◌≡◌, drop}
use Rattle.jz_alarms.specs.Conditions.{asks_results}
use Rattle.jz_inside.specs.Said.{facts_in}
use Rattle.jz_asked.proofs.operations.asks_results.Given as goal

abbrev pub invariant-loop-result : goal.invariant-loop-result
invariant-loop-result l = asks_results (drop l.result-index l.results) (facts_in l.says) ≡ asks_results l.results (facts_in l.says)
