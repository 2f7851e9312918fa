use Rattle.std.proofs.Common.{◌∷◌, [], None, Some, refl, sym, subst, ◌∙◌}
use Rattle.jz_operands.specs.TableHomes.{homes_of}
use Rattle.jz_operands.specs.Refusals.{FindsOr}
use Rattle.jz_operands.proofs.SumLemmas.{for_found}
use Rattle.jz_rows.specs.Rows.{IsRowOf, NeverLowers}
use Rattle.jz_rows.proofs.SettingLemmas.{set_is}
use Rattle.jz_rows.proofs.SettingRefusals.{set_never, one_whole, no_whole}
use Rattle.jz_rows.proofs.settings.plain_row.Goals as goal

pub returns-in-None : goal.returns-in-None
returns-in-None c =
    let home = homes_of c.args.homes.now in
    let d = c.args.to.now in
    let e = c.args.value.now in
    subst (λ o. FindsOr c.set_row.result (IsRowOf home (d ∷ []) o e None) (NeverLowers home (d ∷ []) o e None)) (sym c.in-None.is)
    (for_found c.set_row.result (λ r h. set_is home d None e e c.args.left r refl c.requires h) (λ none. set_never home d None e c.args.left c.requires (one_whole home d None e e c.args.left refl none)) c.set_row.ensures)

pub returns-in-Some-right : goal.returns-in-Some-right
returns-in-Some-right c =
    let home = homes_of c.args.homes.now in
    let d = c.args.to.now in
    let e = c.args.value.now in
    let o = c.in-Some.op in
    let w = c.in-Some-right.right in
    let whole = sym c.in_ok-right-in-Some.ensures ∙ c.in-Some-right.is in
    subst (λ p. FindsOr c.set_row-in-Some-right.result (IsRowOf home (d ∷ []) p e None) (NeverLowers home (d ∷ []) p e None)) (sym c.in-Some.is)
    (for_found c.set_row-in-Some-right.result (λ r h. set_is home d (Some o) e w c.args.left r whole c.requires h)
    (λ none. set_never home d (Some o) e c.args.left c.requires (one_whole home d (Some o) e w c.args.left whole none)) c.set_row-in-Some-right.ensures)

pub returns-in-None-right : goal.returns-in-None-right
returns-in-None-right c =
    let home = homes_of c.args.homes.now in
    let d = c.args.to.now in
    let e = c.args.value.now in
    let o = c.in-Some.op in
    subst (λ p. NeverLowers home (d ∷ []) p e None) (sym c.in-Some.is) (set_never home d (Some o) e c.args.left c.requires (no_whole home d (Some o) e c.args.left (sym c.in_ok-right-in-Some.ensures ∙ c.in-None-right.is)))
