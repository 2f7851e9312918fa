use Rattle.std.proofs.Common.{◌≡◌, length}
use Rattle.std.specs.Prelude.{codes}
use Rattle.jz_listing_lines.specs.InnerReaders.{more_of}
use Rattle.jz_listing_lines.specs.InnerPieces.{an_out}
use Rattle.jz_listing_lines.proofs.events.more_outs.Given as goal

abbrev pub invariant-loop-c : goal.invariant-loop-c
invariant-loop-c l = more_of (codes " ") an_out l.out l.c ≡ more_of (codes " ") an_out l.fn.first l.fn.c

abbrev pub decreases-loop-c : goal.decreases-loop-c
decreases-loop-c l = length l.c
