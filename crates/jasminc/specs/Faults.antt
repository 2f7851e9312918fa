-- Counts of faults of the outside.
use Rattle.std.specs.Prelude.{ℕ, Result, is_err, if◌then◌else◌}
use Rattle.jz_io.specs.Memory.{raised_count}

-- the count after a call: one more where it failed, up to 2^64 - 1
abbrev pub count_after : {T E : Type 0} → ℕ → Result T E → ℕ
count_after before result = if is_err result then raised_count before else before
