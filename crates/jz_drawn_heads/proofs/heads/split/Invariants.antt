use Rattle.std.proofs.Common.{take}
use Rattle.jz_drawn_heads.specs.Pieces.{keys_of, HasHeads}
use Rattle.jz_drawn_heads.proofs.heads.split.Given as goal

abbrev pub invariant-loop-target : goal.invariant-loop-target
invariant-loop-target l = HasHeads (keys_of (take l.target-index l.vars)) l.fn.drawing l.drawing l.heads.items
