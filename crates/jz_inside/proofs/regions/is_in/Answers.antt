use Rattle.std.proofs.Common.{ap, sym, ◌∙◌}
use Rattle.x64_insn.specs.Sizes.{bytes_of}
use Rattle.jz_wide.specs.Sums.{shown}
use Rattle.jz_fact_sets.specs.Kept.{region_of}
use Rattle.jz_inside.specs.Said.{given_in, facts_in}
use Rattle.jz_inside.specs.InnerReadings.{reading_of, interval_of}
use Rattle.jz_inside.proofs.Reading.{inside_is}
use Rattle.jz_inside.proofs.regions.is_in.Goals as goal

pub returns : goal.returns
returns c =
    c.all_of.ensures
    ∙ inside_is (given_in c.args.says) (facts_in c.args.says) (bytes_of c.args.size) (reading_of c.args.reading) (region_of c.args.region.now) c.is_base-based.result c.is_from_zero-low.result c.is_to-inside.result c.is_below_length-below.result
    (interval_of c.scaled_ends-index.result) (shown c.with_size-more.result) c.least_length-length.result
    c.is_base-based.ensures c.scaled_ends-index.ensures c.is_from_zero-low.ensures c.with_size-more.ensures.more c.least_length-length.ensures c.is_to-inside.ensures c.is_below_length-below.ensures
