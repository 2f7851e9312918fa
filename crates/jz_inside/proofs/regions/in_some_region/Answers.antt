use Rattle.std.proofs.Common.{◌≡◌, ◌<◌, true, length, get_or, ap, sym, ◌∙◌, rules}
use Rattle.x64_insn.specs.Sizes.{bytes_of}
use Rattle.jz_alarms.specs.Conditions.{is_inside}
use Rattle.jz_fact_sets.specs.Kept.{region_of}
use Rattle.jz_inside.specs.Said.{given_in, facts_in}
use Rattle.jz_inside.specs.InnerReadings.{reading_of}
use Rattle.jz_inside.proofs.Reading.{some_here}
use Rattle.jz_inside.proofs.regions.in_some_region.Goals as goal

pub returns-then-is_in : goal.returns-then-is_in
returns-then-is_in c =
    let rs = c.args.says.given.now.regions in
    let lt : c.loop-region.region-index < length rs = search rules in
    let is : c.region-item.result ≡ get_or rs c.loop-region.region-index c.region-item.result = search rules in
    let inside : is_inside (given_in c.args.says) (facts_in c.args.says) (bytes_of c.args.size) (reading_of c.args.reading) (region_of c.region-item.result) ≡ true = search rules in
    some_here (given_in c.args.says) (facts_in c.args.says) (bytes_of c.args.size) (reading_of c.args.reading) rs c.loop-region.region-index c.region-item.result lt is inside
    ∙ c.loop-region.invariant
