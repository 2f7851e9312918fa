use Rattle.std.proofs.Common.{◌≡◌, ◌-◌, ◌++◌, drop, length}
use Rattle.jz_intervals.specs.Constants.{all_around, constants}
use Rattle.jz_fact_numbers.proofs.around.constants_of.Given as goal

abbrev pub invariant-loop-i : goal.invariant-loop-i
invariant-loop-i l = l.all.items ++ all_around (drop l.i l.numbers) ≡ constants l.numbers

abbrev pub decreases-loop-i : goal.decreases-loop-i
decreases-loop-i l = length l.numbers - l.i
