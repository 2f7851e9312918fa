use Rattle.jz_alarms.proofs.Lawful.{one_alarm}
use Rattle.jz_alarms.proofs.laws.one_first_alarm.Goals as goal

pub returns : goal.returns
returns c = one_alarm
