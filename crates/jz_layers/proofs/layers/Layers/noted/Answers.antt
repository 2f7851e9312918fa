use Rattle.jz_layers.proofs.Listing.{seen_listed}
use Rattle.jz_layers.proofs.layers.Layers.noted.Goals as goal

pub returns-clause-listed : goal.returns-clause-listed
returns-clause-listed g c = let s = c.args.self.now in seen_listed s.noted s.top s.below.items s.listed
