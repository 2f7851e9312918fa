use Rattle.jz_integers.proofs.Powers.{power_is}
use Rattle.jz_integers.proofs.arithmetic.power.Goals as goal

pub returns : goal.returns
returns c = power_is c.args.count c.requires
