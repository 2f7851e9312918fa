use Rattle.std.proofs.Common.{◌≡◌, ℕ, nat_le, ap, sym, ◌∙◌, subst}
use Rattle.std.specs.List.Sorted.{IsNonDecreasing}
use Rattle.jz_intervals.specs.Constants.{least}
use Rattle.jz_intervals.proofs.Found.{least_ok, least_end, least_there}
use Rattle.jz_intervals.proofs.constants.Constants.least_from.Goals as goal

pub returns-then-index-constants : goal.returns-then-index-constants
returns-then-index-constants c =
    least_end c.as_slice-constants.result.now c.args.n c.binary_search.result c.binary_search.ensures.position (subst IsNonDecreasing (sym c.as_slice-constants.ensures) c.self.invariant) c.args.most c.in-Err.index c.in-Err.is c.if-index-constants.true
    ∙ ap (least (λ d. nat_le c.args.n d) c.args.most) (c.as_slice-constants.ensures ∙ c.self.view_is)

pub returns-in-Ok : goal.returns-in-Ok
returns-in-Ok c =
    c.lower.ensures
    ∙ least_ok c.as_slice-constants.result.now c.args.n c.binary_search.result c.binary_search.ensures.position (subst IsNonDecreasing (sym c.as_slice-constants.ensures) c.self.invariant) c.args.most c.in-Ok.field-0 c.in-Ok.is
    ∙ ap (least (λ d. nat_le c.args.n d) c.args.most) (c.as_slice-constants.ensures ∙ c.self.view_is)

pub returns-else-index-constants : goal.returns-else-index-constants
returns-else-index-constants c =
    c.lower-in-Err.ensures
    ∙ least_there c.as_slice-constants.result.now c.args.n c.binary_search.result c.binary_search.ensures.position (subst IsNonDecreasing (sym c.as_slice-constants.ensures) c.self.invariant) c.args.most c.in-Err.index c.in-Err.is c.if-index-constants.false
    ∙ ap (least (λ d. nat_le c.args.n d) c.args.most) (c.as_slice-constants.ensures ∙ c.self.view_is)
