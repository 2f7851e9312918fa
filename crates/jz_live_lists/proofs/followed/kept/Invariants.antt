use Rattle.std.proofs.Common.{◌≡◌, take}
use Rattle.std.specs.List.{filter}
use Rattle.jz_bits.specs.Has.{has}
use Rattle.jz_live_lists.proofs.followed.kept.Given as goal

abbrev pub invariant-loop-variable : goal.invariant-loop-variable
invariant-loop-variable l = l.kept ≡ filter (has l.followed) (take l.variable-index l.variable-items)
