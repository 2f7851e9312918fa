-- A count that stops.
use Rattle.std.specs.Prelude.{ℕ, ◌-◌, nat_le, Option, Some, None, if◌then◌else◌}

-- what is left of so many, where there are no more parts than these
abbrev pub left_of : ℕ → ℕ → Option ℕ
left_of left n = if nat_le n left then Some (left - n) else None
