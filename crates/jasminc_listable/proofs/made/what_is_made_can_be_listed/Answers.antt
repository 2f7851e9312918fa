use Rattle.jasminc_listable.proofs.Listing.{can_be_listed}
use Rattle.jasminc_listable.proofs.made.what_is_made_can_be_listed.Goals as goal

pub returns : goal.returns
returns c = can_be_listed c.args.compiled.now c.functions_are_sized.ensures
