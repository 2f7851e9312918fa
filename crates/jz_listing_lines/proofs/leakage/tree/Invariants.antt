use Rattle.std.proofs.Common.{◌≡◌, length}
use Rattle.jz_listing_lines.proofs.Trees.{SoFar}
use Rattle.jz_listing_lines.proofs.leakage.tree.Given as goal

abbrev pub invariant-loop-tr : goal.invariant-loop-tr
invariant-loop-tr l = SoFar l.fn.c l.c l.opened

abbrev pub decreases-loop-tr : goal.decreases-loop-tr
decreases-loop-tr l = length l.c
