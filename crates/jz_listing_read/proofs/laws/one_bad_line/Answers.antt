use Rattle.jz_listing_read.proofs.Listings.{one_bad_line}
use Rattle.jz_listing_read.proofs.laws.one_bad_line.Goals as goal

pub returns : goal.returns
returns c = one_bad_line
