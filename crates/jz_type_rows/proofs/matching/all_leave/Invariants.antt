use Rattle.std.proofs.Common.{◌≡◌, map, drop}
use Rattle.std.specs.List.{list_all}
use Rattle.jz_type_rows.specs.InnerPairs.{pair_of}
use Rattle.jz_type_rows.specs.Matching.{leaves}
use Rattle.jz_type_rows.proofs.matching.all_leave.Given as goal

abbrev pub invariant-loop-pair : goal.invariant-loop-pair
invariant-loop-pair l = list_all leaves (map pair_of (drop l.pair-index l.pairs)) ≡ list_all leaves (map pair_of l.pairs)
