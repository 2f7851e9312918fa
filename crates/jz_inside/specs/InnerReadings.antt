-- The readings of the code.
use Rattle.std.specs.Prelude.{ℤ, List, [], ◌∷◌, Some, option_map}
use Rattle.jz_intervals.specs.declared.interval.Interval.{Interval}
use Rattle.jz_meaning.specs.Values.{Ref, ref_of}
use Rattle.jz_alarms.specs.Conditions as conditions
use Rattle.jz_wide.specs.Values.{value}
use Rattle.jz_wide.specs.Sums.{shown}
use Rattle.jz_inside.specs.InnerSums.{scaled_of}
use Rattle.jz_inside.specs.declared.regions.Reading.{Reading}
use Rattle.jz_inside.specs.declared.regions.Ends.{Ends}

abbrev pub reading_of : Reading → conditions.Reading
reading_of r = record {
  base = ref_of r.base.now;
  index = option_map scaled_of r.index;
  more = shown r.more;
}

abbrev pub interval_of : Ends → Interval
interval_of i = record { lo = value i.lo; hi = value i.hi }

-- of two variables, each the base of one reading
abbrev pub either_reading : Ref → Ref → ℤ → List conditions.Reading
either_reading b i more =
    record { base = b; index = Some (i, 1); more = more }
    ∷ record { base = i; index = Some (b, 1); more = more } ∷ []
