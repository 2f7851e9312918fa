use Rattle.std.proofs.Common.{◌∙◌}
use Rattle.jz_asked.proofs.Asking.{size_is}
use Rattle.jz_asked.proofs.sizes.size_of.Goals as goal

pub returns : goal.returns
returns c = c.own_size.ensures ∙ size_is c.args.e.now
