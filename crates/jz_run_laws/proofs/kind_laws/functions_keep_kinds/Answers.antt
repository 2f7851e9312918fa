use Rattle.jz_run_laws.proofs.Functions.{entries_keep, functions_keep}
use Rattle.jz_run_laws.proofs.kind_laws.functions_keep_kinds.Goals as goal

pub returns : goal.returns
returns c = record { entries = entries_keep; functions = functions_keep }
