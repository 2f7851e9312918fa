-- The interval of a stated range.
use Rattle.jz_intervals.specs.declared.interval.Interval.{Interval}
use Rattle.jz_preconditions.specs.declared.least.Interval as stated

abbrev pub interval_of : stated.Interval → Interval
interval_of i = record { lo = i.low; hi = i.high }
