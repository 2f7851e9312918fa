use Rattle.std.proofs.Common.{◌≡◌, ℕ, nat_le, ap, sym, ◌∙◌, subst}
use Rattle.std.specs.List.Sorted.{IsNonDecreasing}
use Rattle.jz_intervals.specs.Constants.{greatest}
use Rattle.jz_intervals.proofs.Found.{greatest_ok, greatest_zero, greatest_at}
use Rattle.jz_intervals.proofs.constants.Constants.greatest_to.Goals as goal

pub returns-then-index-eq0 : goal.returns-then-index-eq0
returns-then-index-eq0 c = subst (λ xs. 0 ≡ greatest (λ d. nat_le d c.args.n) xs) (c.as_slice-constants.ensures ∙ c.self.view_is)
    (greatest_zero c.as_slice-constants.result.now c.args.n c.binary_search.result c.binary_search.ensures.position (subst IsNonDecreasing (sym c.as_slice-constants.ensures) c.self.invariant) c.in-Err.index c.in-Err.is c.if-index-eq0.true)

pub returns-in-Ok : goal.returns-in-Ok
returns-in-Ok c = subst (λ xs. c.args.n ≡ greatest (λ d. nat_le d c.args.n) xs) (c.as_slice-constants.ensures ∙ c.self.view_is)
    (greatest_ok c.as_slice-constants.result.now c.args.n c.binary_search.result c.binary_search.ensures.position (subst IsNonDecreasing (sym c.as_slice-constants.ensures) c.self.invariant) c.in-Ok.field-0 c.in-Ok.is)

pub returns-else-index-eq0 : goal.returns-else-index-eq0
returns-else-index-eq0 c =
    greatest_at c.as_slice-constants.result.now c.args.n c.binary_search.result c.binary_search.ensures.position (subst IsNonDecreasing (sym c.as_slice-constants.ensures) c.self.invariant) c.in-Err.index c.in-Err.is c.if-index-eq0.false
    ∙ ap (greatest (λ d. nat_le d c.args.n)) (c.as_slice-constants.ensures ∙ c.self.view_is)
