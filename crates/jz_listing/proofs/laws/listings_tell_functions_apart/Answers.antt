use Rattle.jz_listing.proofs.LinesApart.{listings_apart}
use Rattle.jz_listing.proofs.laws.listings_tell_functions_apart.Goals as goal

pub returns : goal.returns
returns c = λ cs ds h k e. listings_apart cs ds h k e
