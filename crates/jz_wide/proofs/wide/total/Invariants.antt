use Rattle.std.proofs.Common.{◌≡◌, ◌≤◌, ◌+◌, ◌*◌, drop}
use Rattle.jz_wide.specs.Values.{value, sum}
use Rattle.jz_wide.proofs.wide.total.Given as goal

abbrev pub invariant-loop-n : goal.invariant-loop-n
invariant-loop-n l =
    (value l.all + sum (drop l.n-index l.numbers) ≡ sum l.numbers)
    × (value l.all ≤ l.n-index * 340282366920938463463374607431768211456)
