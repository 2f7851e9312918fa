use Rattle.std.proofs.Common.{◌≡◌, drop, map}
use Rattle.x64_insn.specs.Sizes.{bytes_of}
use Rattle.jz_alarms.specs.Conditions as conditions
use Rattle.jz_fact_sets.specs.Kept.{region_of}
use Rattle.jz_inside.specs.Said.{given_in, facts_in}
use Rattle.jz_inside.specs.InnerReadings.{reading_of}
use Rattle.jz_inside.proofs.regions.in_some_region.Given as goal

abbrev pub invariant-loop-region : goal.invariant-loop-region
invariant-loop-region l =
    conditions.in_some_region (given_in l.says) (facts_in l.says) (bytes_of l.size) (reading_of l.reading) (map region_of (drop l.region-index l.says.given.now.regions))
    ≡ conditions.in_some_region (given_in l.says) (facts_in l.says) (bytes_of l.size) (reading_of l.reading) (map region_of l.says.given.now.regions)
