use Rattle.std.proofs.Common.{◌≡◌, drop}
use Rattle.jz_limits.specs.InnerKnown.{numbers_of}
use Rattle.jz_limits.specs.Asked.{left_parts}
use Rattle.jz_limits.specs.InnerLooked.{firsts_of, firsts_beside}
use Rattle.jz_limits.proofs.lefts.ask_lefts.Given as goal

abbrev pub invariant-loop-left : goal.invariant-loop-left
invariant-loop-left l =
    firsts_beside l.firsts (firsts_of (left_parts (numbers_of l.numbers) (drop l.left-index l.lefts)))
    ≡ firsts_of (left_parts (numbers_of l.numbers) l.lefts)
