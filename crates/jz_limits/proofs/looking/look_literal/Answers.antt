use Rattle.std.proofs.Common.{◌∙◌, Some, true, ap}
use Rattle.jz_limits.specs.InnerLooked.{seen_as}
use Rattle.jz_limits.proofs.looking.look_literal.Goals as goal

pub returns : goal.returns
returns c = c.finished.ensures ∙ ap (seen_as true (Some c.args.value) c.args.span c.args.asking) c.no_pieces.ensures
