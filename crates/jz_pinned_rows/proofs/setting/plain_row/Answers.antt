use Rattle.std.proofs.Common.{None, Some, refl, sym, subst, ◌∙◌}
use Rattle.jz_operands.specs.TableHomes.{homes_of}
use Rattle.jz_operands.specs.Refusals.{FindsOr}
use Rattle.jz_operands.proofs.SumLemmas.{for_found}
use Rattle.jz_pinned_rows.specs.Rows.{IsPinnedRow, NeverPinned}
use Rattle.jz_pinned_rows.specs.InnerRows.{IsPinnedSet, NeverPinnedSet}
use Rattle.jz_pinned_rows.proofs.SetLemmas.{set_is, set_never, one_whole, no_whole}
use Rattle.jz_pinned_rows.proofs.setting.plain_row.Goals as goal

pub returns-in-None : goal.returns-in-None
returns-in-None c =
    let home = homes_of c.args.homes.now in
    let to = c.args.to.now in
    let e = c.args.value.now in
    let left = c.left_sizes-left.result in
    subst (λ o. FindsOr c.set_row.result (IsPinnedRow home to o e None) (NeverPinned home to o e None)) (sym c.in-None.is)
    (for_found c.set_row.result (λ r h. set_is home to None e e left r refl c.left_sizes-left.ensures h) (λ none. set_never home to None e left c.left_sizes-left.ensures (one_whole home to None e e left refl none))
    (subst (λ ts. FindsOr c.set_row.result (IsPinnedSet home left ts e) (NeverPinnedSet home left ts e)) c.as_slice.ensures c.set_row.ensures))

pub returns-in-Some-right : goal.returns-in-Some-right
returns-in-Some-right c =
    let home = homes_of c.args.homes.now in
    let to = c.args.to.now in
    let e = c.args.value.now in
    let left = c.left_sizes-left.result in
    let o = c.in-Some.op in
    let w = c.in-Some-right.right in
    let whole = sym c.in_ok-right-in-Some.ensures ∙ c.in-Some-right.is in
    subst (λ p. FindsOr c.set_row-in-Some-right.result (IsPinnedRow home to p e None) (NeverPinned home to p e None)) (sym c.in-Some.is)
    (for_found c.set_row-in-Some-right.result (λ r h. set_is home to (Some o) e w left r whole c.left_sizes-left.ensures h) (λ none. set_never home to (Some o) e left c.left_sizes-left.ensures (one_whole home to (Some o) e w left whole none))
    (subst (λ ts. FindsOr c.set_row-in-Some-right.result (IsPinnedSet home left ts w) (NeverPinnedSet home left ts w)) c.as_slice-in-Some-right.ensures c.set_row-in-Some-right.ensures))

pub returns-in-None-right : goal.returns-in-None-right
returns-in-None-right c =
    let home = homes_of c.args.homes.now in
    let to = c.args.to.now in
    let e = c.args.value.now in
    let left = c.left_sizes-left.result in
    let o = c.in-Some.op in
    subst (λ p. NeverPinned home to p e None) (sym c.in-Some.is) (set_never home to (Some o) e left c.left_sizes-left.ensures (no_whole home to (Some o) e left (sym c.in_ok-right-in-Some.ensures ∙ c.in-None-right.is)))
