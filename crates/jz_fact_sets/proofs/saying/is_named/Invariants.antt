use Rattle.std.proofs.Common.{◌≡◌, drop}
use Rattle.jz_layers.specs.Spots.{variable_key}
use Rattle.jz_fact_sets.specs.Kept.{is_named}
use Rattle.jz_fact_sets.proofs.saying.is_named.Given as goal

abbrev pub invariant-loop-param : goal.invariant-loop-param
invariant-loop-param l =
    is_named (drop l.param-index l.params) l.rest (variable_key l.var)
    ≡ is_named l.params l.bits (variable_key l.var)
