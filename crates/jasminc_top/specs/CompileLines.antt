-- The lines that tell why functions of a text are not compiled, without their line feeds.
use Rattle.std.specs.Prelude.{List, ℕ, ◌++◌, map, codes, Option, Some, None}
use Rattle.jz_text.specs.Texts.{span_text}
use Rattle.jz_variable_text.specs.Variables.{variable_text}
use Rattle.jz_unplaced.specs.declared.unplaced.Named.{Named}
use Rattle.jz_unplaced.specs.declared.unplaced.Holder.{Holder}
use Rattle.jz_unplaced.specs.declared.unplaced.Unplaced.{Unplaced}
use Rattle.jasminc_check.specs.AlarmLines.{alarm_line}
use Rattle.jasminc_selfrun.specs.Unmade.{Unmade}
use Rattle.jasminc_selfrun.specs.Unmade.TheVariants as unmade
use Rattle.jasminc_selfrun.specs.CompileRefused.{Refused}
use Rattle.jasminc_selfrun.specs.CompileRefused.TheVariants as refused
use Rattle.jasminc_top.specs.InterpLines.{unread_text, limit_text, frame_line}
use Rattle.jasminc_top.specs.Lines.{place_text, need_text, texts_or_dash}

-- a variable, or a fixed write by a star
abbrev pub holder_name : Option Named → List ℕ
holder_name None = codes "*"
holder_name (Some x) = variable_text x.name x.cell

unfoldable pub holder_text : Holder → List ℕ
holder_text h =
    codes " " ++ place_text h.place ++ codes "=" ++ holder_name h.variable
    ++ codes "@" ++ span_text h.span

abbrev pub unplaced_line : Unplaced → List ℕ
unplaced_line u =
    codes "no place " ++ variable_text u.variable.name u.variable.cell ++ codes " needs"
    ++ texts_or_dash (map need_text u.needs) ++ codes " held" ++ texts_or_dash (map holder_text u.holders)

abbrev pub unmade_text : Unmade → List ℕ
unmade_text (unmade.Frame name) = frame_line name
unmade_text (unmade.NoPlace u) = unplaced_line u

abbrev pub uncompiled_text : Refused → List ℕ
uncompiled_text (refused.Unread u) = unread_text u
uncompiled_text (refused.Limit l) = limit_text l
uncompiled_text (refused.Alarm a) = alarm_line a
uncompiled_text (refused.Making u) = unmade_text u
