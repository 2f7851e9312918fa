use Rattle.std.proofs.Common.{◌≡◌, drop}
use Rattle.jz_fact_sets.specs.Kept.{below_all}
use Rattle.jz_fact_sets.proofs.saying.below_all.Given as goal

abbrev pub invariant-loop-param : goal.invariant-loop-param
invariant-loop-param l =
    below_all l.params l.bits l.least (drop l.param-index l.params)
    ≡ below_all l.params l.bits l.most l.params
