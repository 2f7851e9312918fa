use Rattle.std.proofs.Common.{take}
use Rattle.jz_drawn_heads.specs.Pieces.{LeftsMore, keys_of}
use Rattle.jz_drawn_heads.proofs.heads.left_scalars.Given as goal

abbrev pub invariant-loop-left : goal.invariant-loop-left
invariant-loop-left l = LeftsMore (take l.left-index l.to) (keys_of l.fn.vars.items) (keys_of l.vars.items)
