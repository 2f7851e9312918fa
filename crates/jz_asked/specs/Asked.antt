-- What an alarm of the code is.
use Rattle.std.specs.Prelude.{Option, option_map}
use Rattle.jz_alarms.specs.Conditions as conditions
use Rattle.jz_asked.specs.declared.alarms.Alarm.{Alarm}
use Rattle.jz_asked.specs.declared.alarms.Target.{Target}
use Rattle.jz_asked.specs.declared.alarms.Target.TheVariants as target

abbrev pub target_of : Target → conditions.Target
target_of (target.Variable n c) = conditions.named n c
target_of target.Memory = conditions.memory
target_of target.Division = conditions.division

abbrev pub alarm_of : Alarm → conditions.Alarm
alarm_of a = record { span = a.span; why = a.why; target = target_of a.target }

-- the alarm, if there is one
abbrev pub found_of : Option Alarm → Option conditions.Alarm
found_of a = option_map alarm_of a
