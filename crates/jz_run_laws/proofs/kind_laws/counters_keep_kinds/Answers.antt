use Rattle.jz_run_laws.proofs.Nodes.{counters_begin, counters_restore}
use Rattle.jz_run_laws.proofs.kind_laws.counters_keep_kinds.Goals as goal

pub returns : goal.returns
returns c = record { begins = counters_begin; restores = counters_restore }
