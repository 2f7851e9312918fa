use Rattle.std.proofs.Common.{◌≡◌, drop}
use Rattle.jz_alarms.specs.Conditions.{asks_lefts}
use Rattle.jz_inside.specs.Said.{given_in, facts_in}
use Rattle.jz_asked.proofs.lefts.asks_lefts.Given as goal

abbrev pub invariant-loop-left : goal.invariant-loop-left
invariant-loop-left l =
    asks_lefts (given_in l.says) (facts_in l.says) l.size (drop l.left-index l.to) ≡ asks_lefts (given_in l.says) (facts_in l.says) l.size l.to
