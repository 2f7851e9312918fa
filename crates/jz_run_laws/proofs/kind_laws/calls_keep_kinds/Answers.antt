use Rattle.jz_run_laws.proofs.Calls.{calls_enter, calls_leave}
use Rattle.jz_run_laws.proofs.kind_laws.calls_keep_kinds.Goals as goal

pub returns : goal.returns
returns c = record { enters = calls_enter; leaves = calls_leave }
