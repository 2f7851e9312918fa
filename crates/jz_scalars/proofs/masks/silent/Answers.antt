use Rattle.std.proofs.Common.{ap}
use Rattle.jz_scalars.proofs.MaskLemmas.{masked_as}
use Rattle.jz_scalars.proofs.masks.silent.Goals as goal

pub returns : goal.returns
returns c = ap (masked_as c.args.whole) c.new.ensures
