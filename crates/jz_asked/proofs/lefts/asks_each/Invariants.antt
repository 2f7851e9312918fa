use Rattle.std.proofs.Common.{◌≡◌, drop}
use Rattle.jz_alarms.specs.Conditions.{asks_each}
use Rattle.jz_inside.specs.Said.{given_in, facts_in}
use Rattle.jz_asked.proofs.lefts.asks_each.Given as goal

abbrev pub invariant-loop-operand : goal.invariant-loop-operand
invariant-loop-operand l =
    asks_each (given_in l.says) (facts_in l.says) l.size (drop l.operand-index l.operands) ≡ asks_each (given_in l.says) (facts_in l.says) l.size l.operands
