use Rattle.std.proofs.Common.{sym, subst}
use Rattle.jz_runs.specs.Trees.{op}
use Rattle.jz_meaning.specs.Statements.{assign}
use Rattle.jz_operands.specs.TableHomes.{homes_of}
use Rattle.jz_operands.specs.Refusals.{FindsOr}
use Rattle.jz_pinned_rows.specs.Rows.{IsPinnedRow, NeverPinned}
use Rattle.jz_lowering.specs.declared.parts.Lowered.{Lowered}
use Rattle.jz_lowering.specs.Becoming.{Becomes}
use Rattle.jz_lowering.proofs.PartsInOrder.{pinned_code, assignment_refused}
use Rattle.jz_lowering.proofs.PartLemmas.{pinned_row_becomes}
use Rattle.jz_lowering.proofs.statements.lower_other.Goals as goal

pub returns-in_ok-made-in-Some-clause-made : goal.returns-in_ok-made-in-Some-clause-made
returns-in_ok-made-in-Some-clause-made c =
    let a = c.args in
    let home = homes_of a.lowerer.now.homes.now in
    let row = subst (λ o. FindsOr o (IsPinnedRow home a.to.now a.op a.value.now a.cond.now) (NeverPinned home a.to.now a.op a.value.now a.cond.now)) c.in-Some.is c.in_ok-found.ensures in
    subst (λ (r : Lowered). Becomes home (op (assign a.to.now a.op a.value.now a.cond.now a.span)) r.nodes r.steps) (sym c.in_ok-made-in-Some.ensures) (pinned_row_becomes home a.to.now a.op a.value.now a.cond.now a.span c.in-Some.row row)

pub returns-in_ok-made-in-Some-clause-code : goal.returns-in_ok-made-in-Some-clause-code
returns-in_ok-made-in-Some-clause-code c =
    let a = c.args in
    let home = homes_of a.lowerer.now.homes.now in
    pinned_code home a.to.now a.op a.value.now a.cond.now a.span c.in-Some.row
    (subst (λ o. FindsOr o (IsPinnedRow home a.to.now a.op a.value.now a.cond.now) (NeverPinned home a.to.now a.op a.value.now a.cond.now)) c.in-Some.is c.in_ok-found.ensures)

pub returns-in-None-clause-code : goal.returns-in-None-clause-code
returns-in-None-clause-code c =
    let a = c.args in
    let home = homes_of a.lowerer.now.homes.now in
    assignment_refused home a.to.now a.op a.value.now a.cond.now a.span c.requires
    (subst (λ o. FindsOr o (IsPinnedRow home a.to.now a.op a.value.now a.cond.now) (NeverPinned home a.to.now a.op a.value.now a.cond.now)) c.in-None.is c.in_ok-found.ensures)
