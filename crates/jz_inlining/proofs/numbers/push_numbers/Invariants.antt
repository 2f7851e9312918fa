use Rattle.std.proofs.Common.{◌≡◌, ◌+◌, ◌++◌, length}
use Rattle.jz_inline.specs.Calls.{from}
use Rattle.jz_inlining.proofs.numbers.push_numbers.Given as goal

abbrev pub invariant-loop : goal.invariant-loop
invariant-loop l = (length l.all.items ≡ length l.fn.all.items + l.counter) × (l.out ≡ l.fn.out ++ from (length l.fn.all.items) l.counter)
