use Rattle.std.proofs.Common.{◌≡◌, ◌++◌, map, take}
use Rattle.std.specs.List.{concat}
use Rattle.jasminc_regions.specs.Regions.{region_text}
use Rattle.jasminc_regions.proofs.regions.write_regions.Given as goal

abbrev pub invariant-loop-pre : goal.invariant-loop-pre
invariant-loop-pre l =
    l.text.items ≡ l.initial.text.items ++ concat (map (region_text l.function l.words l.memory) (take l.pre-index l.pres))
