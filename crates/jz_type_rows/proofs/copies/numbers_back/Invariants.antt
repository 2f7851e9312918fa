use Rattle.std.proofs.Common.{◌≡◌, ◌++◌, map, drop}
use Rattle.jz_type_rows.specs.InnerPairs.{pair_of}
use Rattle.jz_type_rows.specs.Copies.{numbers_back}
use Rattle.jz_type_rows.proofs.copies.numbers_back.Given as goal

abbrev pub invariant-loop-pair : goal.invariant-loop-pair
invariant-loop-pair l = l.numbers.items ++ numbers_back l.args (map pair_of (drop l.pair-index l.given)) ≡ numbers_back l.args (map pair_of l.fn.given)
