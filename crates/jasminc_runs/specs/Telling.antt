-- The text of a run of compiled code that ended.
use Rattle.std.specs.Prelude.{ℕ, List, ◌++◌, map, codes, decimal}
use Rattle.std.specs.List.{concat}
use Rattle.jz_tree.specs.declared.program.Fun.{Fun}
use Rattle.jz_leak.specs.declared.event.Event.{Event}
use Rattle.jz_listing.specs.declared.compiled.Compiled.{Compiled}
use Rattle.x64_machine.specs.Steps.{Config}
use Rattle.jasminc_regions.specs.Regions.{regions_text}
use Rattle.jasminc_steps.specs.Telling.{event_line, result_line}

-- the events, the number of steps, the results in the registers at the end, and the regions in the
-- memory there
abbrev pub run_text : Compiled → Fun → List ℕ → Config → List Event → ℕ → List ℕ
run_text c f words now events k =
    concat (map event_line events) ++ codes "end " ++ decimal k ++ codes "\n"
    ++ concat (map (result_line now.state) c.rets) ++ regions_text f words now.memory
