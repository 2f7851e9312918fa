-- The lines that tell why the functions of a text are not all safe, without their line feeds.
use Rattle.std.specs.Prelude.{List, ℕ}
use Rattle.jasminc_check.specs.declared.refused.Refused.{Refused}
use Rattle.jasminc_check.specs.declared.refused.Refused.TheVariants as refused
use Rattle.jasminc_check.specs.AlarmLines.{alarm_line}
use Rattle.jasminc_top.specs.InterpLines.{unread_text, limit_text}

abbrev pub unsafe_text : Refused → List ℕ
unsafe_text (refused.Unread u) = unread_text u
unsafe_text (refused.Limit l) = limit_text l
unsafe_text (refused.Alarm a) = alarm_line a
