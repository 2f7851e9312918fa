-- Numbers that are added and taken away.
use Rattle.std.specs.Prelude.{◌≤◌, ◌^◌, ℤ, pos, ◌-ℤ◌}
use Rattle.jz_wide.specs.Values.{value}
use Rattle.jz_wide.specs.declared.numbers.Numbers.{Numbers}

abbrev pub shown : Numbers → ℤ
shown n = pos (value n.added) -ℤ pos (value n.taken)

abbrev pub AreFew : Numbers → Type 0
AreFew n = (value n.added ≤ 2 ^ 191) × (value n.taken ≤ 2 ^ 191)
