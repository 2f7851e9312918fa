use Rattle.std.proofs.Common.{sym, subst}
use Rattle.jz_runs.specs.Trees.{op}
use Rattle.jz_meaning.specs.Statements.{assign}
use Rattle.jz_operands.specs.TableHomes.{homes_of}
use Rattle.jz_operands.specs.Refusals.{FindsOr}
use Rattle.jz_rows.specs.Rows.{IsRowOf, NeverLowers}
use Rattle.jz_lowering.specs.declared.parts.Lowered.{Lowered}
use Rattle.jz_lowering.specs.Becoming.{Becomes}
use Rattle.jz_lowering.proofs.PartsInOrder.{assignment_code}
use Rattle.jz_lowering.proofs.PartLemmas.{row_becomes}
use Rattle.jz_lowering.proofs.statements.lower_value.Goals as goal

pub lower_other-requires : goal.lower_other-requires
lower_other-requires c =
    let a = c.args in
    let home = homes_of a.lowerer.now.homes.now in
    subst (λ o. FindsOr o (IsRowOf home a.to.now a.op a.value.now a.cond.now) (NeverLowers home a.to.now a.op a.value.now a.cond.now)) c.in-None.is c.in_ok-found.ensures

pub returns-in_ok-made-in-Some-clause-made : goal.returns-in_ok-made-in-Some-clause-made
returns-in_ok-made-in-Some-clause-made c =
    let a = c.args in
    let home = homes_of a.lowerer.now.homes.now in
    let row = subst (λ o. FindsOr o (IsRowOf home a.to.now a.op a.value.now a.cond.now) (NeverLowers home a.to.now a.op a.value.now a.cond.now)) c.in-Some.is c.in_ok-found.ensures in
    subst (λ (r : Lowered). Becomes home (op (assign a.to.now a.op a.value.now a.cond.now a.span)) r.nodes r.steps) (sym c.in_ok-made-in-Some.ensures) (row_becomes home a.to.now a.op a.value.now a.cond.now a.span c.in-Some.row row)

pub returns-in_ok-made-in-Some-clause-code : goal.returns-in_ok-made-in-Some-clause-code
returns-in_ok-made-in-Some-clause-code c =
    let a = c.args in
    let home = homes_of a.lowerer.now.homes.now in
    assignment_code home a.to.now a.op a.value.now a.cond.now a.span c.in-Some.row
    (subst (λ o. FindsOr o (IsRowOf home a.to.now a.op a.value.now a.cond.now) (NeverLowers home a.to.now a.op a.value.now a.cond.now)) c.in-Some.is c.in_ok-found.ensures)
