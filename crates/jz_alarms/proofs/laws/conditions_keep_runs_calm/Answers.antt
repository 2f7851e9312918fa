use Rattle.jz_alarms.proofs.Lawful.{met_is_calm}
use Rattle.jz_alarms.proofs.laws.conditions_keep_runs_calm.Goals as goal

pub returns : goal.returns
returns c = met_is_calm
