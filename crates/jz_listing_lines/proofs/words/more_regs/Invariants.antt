use Rattle.std.proofs.Common.{◌≡◌, length}
use Rattle.std.specs.Prelude.{codes}
use Rattle.jz_listing_lines.specs.InnerReaders.{more_of}
use Rattle.jz_listing_lines.specs.InnerPieces.{a_reg}
use Rattle.jz_listing_lines.proofs.words.more_regs.Given as goal

abbrev pub invariant-loop-c : goal.invariant-loop-c
invariant-loop-c l = more_of (codes " ") a_reg l.out l.c ≡ more_of (codes " ") a_reg l.fn.first l.fn.c

abbrev pub decreases-loop-c : goal.decreases-loop-c
decreases-loop-c l = length l.c
