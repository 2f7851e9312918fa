use Rattle.std.proofs.Common.{◌≡◌, drop, map}
use Rattle.jz_layers.specs.Spots.{variable_key}
use Rattle.jz_facts.specs.Facts.{least_of}
use Rattle.jz_fact_sets.specs.Kept.{start_of}
use Rattle.jz_inside.proofs.regions.least_at_entry.Given as goal

abbrev pub invariant-loop-param : goal.invariant-loop-param
invariant-loop-param l = least_of (map start_of (drop l.param-index l.params)) (variable_key l.var) ≡ least_of (map start_of l.params) (variable_key l.var)
