-- What an operation on words gives where each operand lies in an interval. Words are whole numbers;
-- an end below 0 counts as 0, one above the greatest word as that.
use Rattle.std.specs.Prelude.{ℕ, ◌+◌, ◌-◌, ◌*◌, ◌/◌, ◌^◌, nat_le, Bool, min, max, if◌then◌else◌}
use Rattle.x64_insn.specs.Size.{Size}
use Rattle.x64_insn.specs.Sizes.{modulus}
use Rattle.jz_intervals.specs.declared.interval.Interval.{Interval}

abbrev pub greatest_word : Size → ℕ
greatest_word z = modulus z - 1

-- each word
abbrev pub each_word : Size → Interval
each_word z = record { lo = 0; hi = greatest_word z }

abbrev pub only : ℕ → Interval
only n = record { lo = n; hi = n }

abbrev pub where_so : Bool → Size → ℕ → ℕ → Interval
where_so c z lo hi = if c then record { lo = lo; hi = hi } else each_word z

-- ---- the operations, on words of a size

abbrev pub sum : Size → Interval → Interval → Interval
sum z a b =
    where_so (nat_le (a.hi + b.hi) (greatest_word z)) z
    (min (a.lo + b.lo) (greatest_word z)) (a.hi + b.hi)

abbrev pub difference : Size → Interval → Interval → Interval
difference z a b = where_so (nat_le b.hi a.lo) z (a.lo - b.hi) (a.hi - b.lo)

abbrev pub product : Size → Interval → Interval → Interval
product z a b =
    where_so (nat_le (a.hi * b.hi) (greatest_word z)) z
    (min (a.lo * b.lo) (greatest_word z)) (a.hi * b.hi)

abbrev pub mask : Interval → Interval → Interval
mask a b = record { lo = 0; hi = min a.hi b.hi }

abbrev pub quotient : Size → Interval → Interval → Interval
quotient z a b = where_so (nat_le 1 b.lo) z (a.lo / max b.hi 1) (a.hi / b.lo)

-- only the divisor counts
abbrev pub remainder : Size → Interval → Interval
remainder z b = where_so (nat_le 1 b.lo) z 0 (b.hi - 1)

abbrev pub shifted_by : ℕ → Interval → Interval
shifted_by n a = record { lo = a.lo / 2 ^ n; hi = a.hi / 2 ^ n }

-- as a word of this size, which may be another one
abbrev pub fitted : Size → Interval → Interval
fitted z a = where_so (nat_le a.hi (greatest_word z)) z (min a.lo (greatest_word z)) a.hi
