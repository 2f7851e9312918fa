use Rattle.std.proofs.Common.{◌≡◌, ap, sym, ◌∙◌, subst}
use Rattle.std.specs.List.Sorted.{IsNonDecreasing}
use Rattle.std.proofs.lemmas.List.Sorted.{IsNonDecreasingBy-from_sort}
use Rattle.jz_intervals.specs.Constants.{is_among}
use Rattle.jz_intervals.proofs.Among.{among_permutation}
use Rattle.jz_intervals.proofs.constants.Constants.in_order.Goals as goal

pub invariant_of-result : goal.invariant_of-result
invariant_of-result c =
    subst IsNonDecreasing (sym c.from_vec.ensures)
    (IsNonDecreasingBy-from_sort (λ x. x) _ c.sort_unstable.ensures.sorted)

pub returns : goal.returns
returns c = λ d.
    ap (is_among d) c.from_vec.ensures
    ∙ among_permutation _ _ c.sort_unstable.ensures.permutation d
