use Rattle.std.proofs.Common.{◌≡◌, ◌++◌, drop, flat_map}
use Rattle.jz_given.specs.Giving as giving
use Rattle.jz_given.proofs.regions.regions.Given as goal

abbrev pub invariant-loop-pre : goal.invariant-loop-pre
invariant-loop-pre l = l.list.items ++ flat_map (giving.region_of (giving.variables l.params)) (drop l.pre-index l.pre-items) ≡ flat_map (giving.region_of (giving.variables l.params)) l.pre-items
