-- The line of an alarm, without its line feed.
use Rattle.std.specs.Prelude.{ℕ, List, ◌++◌, codes}
use Rattle.jz_text.specs.Texts.{span_text}
use Rattle.jz_meaning.specs.declared.value.Why.{Why}
use Rattle.jz_meaning.specs.declared.value.Why.TheVariants as why
use Rattle.jz_asked.specs.declared.alarms.Alarm.{Alarm}
use Rattle.jz_asked.specs.declared.alarms.Target.{Target}
use Rattle.jz_asked.specs.declared.alarms.Target.TheVariants as target
use Rattle.jz_variable_text.specs.Variables.{variable_text}

unfoldable pub kind_name : Why → List ℕ
kind_name why.Bounds = codes "Bounds"
kind_name why.Address = codes "Address"
kind_name why.Align = codes "Align"
kind_name why.Init = codes "Init"
kind_name why.Divide = codes "Divide"

abbrev pub target_text : Target → List ℕ
target_text (target.Variable name cell) = variable_text name cell
target_text target.Memory = codes "mem"
target_text target.Division = codes "div"

abbrev pub alarm_line : Alarm → List ℕ
alarm_line a =
    codes "alarm " ++ span_text a.span ++ codes " " ++ kind_name a.why ++ codes " "
    ++ target_text a.target
