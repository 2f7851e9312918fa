use Rattle.std.proofs.Common.{◌≡◌, map, take, true}
use Rattle.std.specs.List.{list_all}
use Rattle.jz_unroll.specs.Values.{left_with_values, left_has_values}
use Rattle.jz_unrolling_values.specs.InlineNames.{names_in}
use Rattle.jz_unrolling_values.specs.Numbers.{numbers_in}
use Rattle.jz_unrolling_values.proofs.expressions.lefts_with_values.Given as goal

abbrev pub invariant-loop-lval : goal.invariant-loop-lval
invariant-loop-lval l =
    (l.lefts ≡ map (left_with_values (numbers_in l.values.known.now)) (take l.lval-index l.lvals))
    × (list_all (left_has_values (names_in l.values.vars.now) (numbers_in l.values.known.now)) (take l.lval-index l.lvals) ≡ true)
