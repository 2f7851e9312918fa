use Rattle.jz_listing_read.proofs.Listings.{good_or_bad}
use Rattle.jz_listing_read.proofs.laws.listings_have_no_bad_line.Goals as goal

pub returns : goal.returns
returns c = good_or_bad
