use Rattle.std.proofs.Common.{◌≡◌, ◌<◌, ◌++◌, ◌^◌, ◌-◌}
use Rattle.jz_gen.specs.Programs.{lines}
use Rattle.jz_gen.proofs.write_lines.Given as goal

abbrev pub invariant-loop : goal.invariant-loop
invariant-loop l =
    (l.number < 2 ^ 32)
    × (l.text.items ++ lines l.number (l.size - l.counter) ≡ l.fn.text.items ++ lines l.fn.seed l.fn.size)
