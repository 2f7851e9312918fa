use Rattle.jz_typed_runs.proofs.InlineExact.{inline_law}
use Rattle.jz_typed_runs.proofs.laws.inline_values_are_never_stuck.Goals as goal

pub returns : goal.returns
returns c = inline_law
