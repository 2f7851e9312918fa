use Rattle.std.proofs.Common.{take}
use Rattle.std.specs.List.{All}
use Rattle.jz_ir.specs.Places.{Below}
use Rattle.jz_ir.proofs.within.are_below.Given as goal

abbrev pub invariant-loop-op : goal.invariant-loop-op
invariant-loop-op l = All (Below l.count) (take l.op-index l.ops)
