use Rattle.std.proofs.Common.{rules, sym, subst, ◌∙◌, ap}
use Rattle.jz_tree.specs.declared.expr.Expr.TheVariants as expr
use Rattle.jz_operands.specs.TableHomes.{homes_of}
use Rattle.jz_rows.specs.declared.comparing.Comparison.{Comparison}
use Rattle.jz_operands.proofs.SumLemmas.{none_or}
use Rattle.jz_rows.specs.Rows.{Compares, NeverCompares}
use Rattle.jz_rows.proofs.SettingLemmas.{denied_is}
use Rattle.jz_rows.proofs.SettingRefusals.{denied_never, other_never}
use Rattle.jz_rows.proofs.comparing.+compared.Goals as goal

pub returns-in_ok-found-in-Not : goal.returns-in_ok-found-in-Not
returns-in_ok-found-in-Not t c =
    let home = homes_of c.args.homes.now in
    let m = c.in_ok-found-in-Not.found in
    let made : Comparison = record { action = m.action; cond = c.opposite.result; first = m.first; second = m.second } in
    subst (λ e. Compares home e made) (ap (λ e. expr.Not e c.in-Not.field-1) c.get-in-Not.ensures ∙ sym c.in-Not.is)
    (denied_is home c.get-in-Not.result.now c.in-Not.field-1 m c.opposite.result c.in_ok-found-in-Not.ensures c.opposite.ensures)

pub returns-in_err-found-in-Not : goal.returns-in_err-found-in-Not
returns-in_err-found-in-Not t c =
    let home = homes_of c.args.homes.now in
    none_or (Compares home c.args.condition.now) c.from_residual.result (search rules)
    (subst (NeverCompares home) (ap (λ e. expr.Not e c.in-Not.field-1) c.get-in-Not.ensures ∙ sym c.in-Not.is) (denied_never home c.get-in-Not.result.now c.in-Not.field-1 c.in_err-found-in-Not.ensures))

pub returns-in_default : goal.returns-in_default
returns-in_default t c = other_never (homes_of c.args.homes.now) c.args.condition.now (search rules) (search rules)
