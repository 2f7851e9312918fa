use Rattle.std.proofs.Common.{refl, rules, sym, subst}
use Rattle.jz_operands.specs.TableHomes.{homes_of}
use Rattle.jz_operands.proofs.SumLemmas.{none_or}
use Rattle.jz_flag_rows.specs.Conditions.{IsFlagCondition}
use Rattle.jz_operands.specs.Refusals.{FindsOr}
use Rattle.jz_pinned_rows.specs.declared.choosing.FlagTest.{FlagTest}
use Rattle.jz_pinned_rows.specs.Rows.{NeverFlag}
use Rattle.jz_pinned_rows.proofs.ChoiceLemmas.{denied_is, no_denied, no_flag_form}
use Rattle.jz_pinned_rows.proofs.choosing.+flag_test.Goals as goal

pub returns-in-Var : goal.returns-in-Var
returns-in-Var t c =
    subst (λ e. FindsOr {A = FlagTest} c.flag_itself.result (λ f. IsFlagCondition (homes_of c.args.homes.now) e f.variable f.denied) (NeverFlag (homes_of c.args.homes.now) e)) (sym c.in-Var.is) c.flag_itself.ensures

pub returns-in_ok-found-in-Not : goal.returns-in_ok-found-in-Not
returns-in_ok-found-in-Not t c =
    let m = c.in_ok-found-in-Not.found in
    denied_is (homes_of c.args.homes.now) c.args.condition.now c.in-Not.inner c.get.result.now c.in-Not.field-1 m.variable m.denied _ c.in-Not.is c.get.ensures refl c.in_ok-found-in-Not.ensures

pub returns-in_err-found-in-Not : goal.returns-in_err-found-in-Not
returns-in_err-found-in-Not t c =
    none_or {A = FlagTest} (λ f. IsFlagCondition (homes_of c.args.homes.now) c.args.condition.now f.variable f.denied) c.from_residual.result (search rules)
    (no_denied (homes_of c.args.homes.now) c.args.condition.now c.in-Not.inner c.get.result.now c.in-Not.field-1 c.in-Not.is c.get.ensures c.in_err-found-in-Not.ensures)

pub returns-in_default : goal.returns-in_default
returns-in_default t c = no_flag_form (homes_of c.args.homes.now) c.args.condition.now (search rules) (search rules)
