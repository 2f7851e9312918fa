use Rattle.std.proofs.Common.{◌<◌, ◌^◌, ℕ, List, length, subst}
use Rattle.jasminc_made_starts.proofs.Starting.{can_be_started}
use Rattle.jasminc_made_starts.proofs.made.what_is_made_can_be_started.Goals as goal

pub returns : goal.returns
returns c = can_be_started c.args.compiled.now (subst (λ (bs : List ℕ). length bs < 2 ^ 63) c.as_slice.ensures c.is_short.ensures)
