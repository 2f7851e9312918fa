use Rattle.std.proofs.Common.{ap, ◌∙◌}
use Rattle.jz_resolve.specs.Programs.{resolved_fun}
use Rattle.jz_resolve.specs.Tables.{values_in, places_in}
use Rattle.jz_resolve.proofs.program.resolve_whole.Goals as goal

pub returns : goal.returns
returns c = c.in_ok-resolved.ensures ∙ ap (resolved_fun (places_in c.args.constants.now) (values_in c.args.constants.now)) c.in_ok-counted.ensures
