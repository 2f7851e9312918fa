-- The lines of events and results, and of a run that was cut.
use Rattle.std.specs.Prelude.{ℕ, if◌then◌else◌, List, ◌++◌, map, codes}
use Rattle.std.specs.List.{concat}
use Rattle.x64_insn.specs.declared.types.State.{State}
use Rattle.x64_insn.specs.Rows.{reg_value}
use Rattle.jz_leak.specs.declared.event.Event.{Event}
use Rattle.jz_leak.specs.declared.event.Event.TheVariants as event
use Rattle.jz_listing.specs.declared.compiled.Arg.{Arg}
use Rattle.jasminc_lines.specs.Lines.{quadword_text, result_text, cut_line}

abbrev pub event_line : Event → List ℕ
event_line (event.Branch taken) =
    codes "branch " ++ (if taken then codes "1" else codes "0") ++ codes "\n"
event_line (event.Addr a) = codes "addr " ++ quadword_text a ++ codes "\n"
event_line (event.Div high low divisor) =
    codes "div " ++ quadword_text high ++ codes " " ++ quadword_text low
    ++ codes " " ++ quadword_text divisor ++ codes "\n"

-- a result, by its register at the end
abbrev pub result_line : State → Arg → List ℕ
result_line st a = result_text a.name a.size (reg_value st a.reg)

-- the events so far, and after how many steps the run was cut
abbrev pub cut_text : List Event → ℕ → List ℕ
cut_text events n = concat (map event_line events) ++ cut_line n
