use Rattle.std.proofs.Common.{◌≡◌, ◌+◌, ◌-◌, ◌≤◌, ◌++◌, length}
use Rattle.x64_insn.specs.Chosen.{bytes_of_number}
use Rattle.x64_encode.proofs.code.Code15.push_number.Given as goal

abbrev pub invariant-loop : goal.invariant-loop
invariant-loop l = (l.self ++ bytes_of_number (l.count - l.counter) l.rest ≡ l.fn.self ++ bytes_of_number l.count l.number) × (length l.self + (l.count - l.counter) ≤ 15)
