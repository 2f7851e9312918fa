use Rattle.jz_limits.proofs.Knowing.{none_known}
use Rattle.jz_limits.proofs.known.Known.new.Goals as goal

pub returns : goal.returns
returns c = none_known (record { store = c.new.result }) c.new.ensures
