use Rattle.std.proofs.Common.{ap, None}
use Rattle.std.specs.Prelude.{is_some}
use Rattle.jz_unrolling_values.proofs.inline_vars.InlineVars.none.Goals as goal

pub returns : goal.returns
returns c = record { names = ap (λ s n d. is_some (s (record { name = n; copy = d; cell = None }))) c.new.ensures }
