use Rattle.jz_listing_read.proofs.Listings.{one_listing}
use Rattle.jz_listing_read.proofs.laws.one_listing.Goals as goal

pub returns : goal.returns
returns c = one_listing
