use Rattle.std.proofs.Common.{length}
use Rattle.jz_listing_read.proofs.Listings.{SoFar}
use Rattle.jz_listing_read.proofs.reading.read_listing.Given as goal

abbrev pub invariant-loop-line : goal.invariant-loop-line
invariant-loop-line l = SoFar l.text l.rest l.number l.state

abbrev pub decreases-loop-line : goal.decreases-loop-line
decreases-loop-line l = length l.rest
