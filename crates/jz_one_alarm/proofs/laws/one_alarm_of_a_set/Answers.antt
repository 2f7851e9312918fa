use Rattle.jz_one_alarm.proofs.OneAlarms.{one_alarm_of_set}
use Rattle.jz_one_alarm.proofs.laws.one_alarm_of_a_set.Goals as goal

pub returns : goal.returns
returns c = one_alarm_of_set
