use Rattle.std.proofs.Common.{sym}
use Rattle.jz_intervals.proofs.Shifts.{gone}
use Rattle.jz_intervals.proofs.interval.shifted.Goals as goal

pub returns-then-count-ge64 : goal.returns-then-count-ge64
returns-then-count-ge64 c = sym (gone c.args.a c.args.count c.ranges.a.fits c.if-count-ge64.true)
