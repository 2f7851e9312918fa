use Rattle.std.proofs.Common.{◌≡◌, map, take, true}
use Rattle.std.specs.List.{list_all}
use Rattle.jz_unroll.specs.Values.{with_values, has_values}
use Rattle.jz_unrolling_values.specs.InlineNames.{names_in}
use Rattle.jz_unrolling_values.specs.Numbers.{numbers_in}
use Rattle.jz_unrolling_values.proofs.expressions.all_with_values.Given as goal

abbrev pub invariant-loop-expr : goal.invariant-loop-expr
invariant-loop-expr l =
    (l.all ≡ map (with_values (numbers_in l.values.known.now)) (take l.expr-index l.exprs))
    × (list_all (has_values (names_in l.values.vars.now) (numbers_in l.values.known.now)) (take l.expr-index l.exprs) ≡ true)
