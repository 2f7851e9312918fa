use Rattle.jz_wide.proofs.Wider.{product_is}
use Rattle.jz_wide.proofs.wide.Wide.product.Goals as goal

pub returns : goal.returns
returns c = product_is c.args.n c.args.times
