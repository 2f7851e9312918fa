use Rattle.std.proofs.Common.{[], ◌∷◌, None, ap, ◌∙◌, sym, subst}
use Rattle.std.specs.Prelude.{All}
use Rattle.jz_runs.specs.Trees.{done, op}
use Rattle.jz_meaning.specs.Runs.{assign_tree, instruction_tree}
use Rattle.jz_meaning.specs.Statements.{assign}
use Rattle.jz_operands.specs.TableHomes.{homes_of}
use Rattle.jz_lowering.specs.Becoming.{no_callees}
use Rattle.jz_lowering.specs.Parts.{does, parts_in, HasCode, IsFirstWithout, HaveCode}
use Rattle.jz_homing.proofs.HandedOn.{handed}
use Rattle.jz_lowering.proofs.PartsInOrder.{call_refused, updated_refused}
use Rattle.jz_lowering.proofs.BecomingLemmas.{becomes_as}
use Rattle.jz_lowering.proofs.statements.lower_assign.Goals as goal

-- ---- a value
pub returns-in_ok-made-in-Value-clause-made : goal.returns-in_ok-made-in-Value-clause-made
returns-in_ok-made-in-Value-clause-made c =
    let a = c.args in
    let m = c.in_ok-made-in-Value.made in
    becomes_as (homes_of a.lowerer.now.homes.now) (op (assign a.to.now a.op c.in-Value.value a.cond.now a.span)) (assign_tree no_callees a.to.now a.op a.rhs.now a.cond.now a.span) m.nodes m.steps
    (ap (λ r. assign_tree no_callees a.to.now a.op r a.cond.now a.span) c.in-Value.is) c.in_ok-made-in-Value.ensures.made

pub returns-in_ok-made-in-Value-clause-code : goal.returns-in_ok-made-in-Value-clause-code
returns-in_ok-made-in-Value-clause-code c =
    let a = c.args in
    subst (λ r. All (HasCode (homes_of a.lowerer.now.homes.now)) (parts_in (assign_tree no_callees a.to.now a.op r a.cond.now a.span done))) (sym c.in-Value.is) c.in_ok-made-in-Value.ensures.code

pub returns-in_err-made-in-Value-clause-code : goal.returns-in_err-made-in-Value-clause-code
returns-in_err-made-in-Value-clause-code c =
    let a = c.args in
    let home = homes_of a.lowerer.now.homes.now in
    let parts = parts_in (assign_tree no_callees a.to.now a.op a.rhs.now a.cond.now a.span done) in
    handed (HaveCode home (does (assign a.to.now a.op c.in-Value.value a.cond.now a.span) ∷ [])) (HaveCode home parts) c.from_residual.result c.in_err-made-in-Value.field-0.0 c.from_residual.ensures.1 c.in_err-made-in-Value.ensures.code
    (λ at first. subst (λ r. IsFirstWithout home (parts_in (assign_tree no_callees a.to.now a.op r a.cond.now a.span done)) at) (sym c.in-Value.is) first)

-- ---- a call
pub returns-in-Call-clause-code : goal.returns-in-Call-clause-code
returns-in-Call-clause-code c =
    let home = homes_of c.args.lowerer.now.homes.now in
    let a = c.args in
    subst (λ r. IsFirstWithout home (parts_in (assign_tree no_callees a.to.now a.op r a.cond.now a.span done)) c.in-Call.at) (sym c.in-Call.is) (call_refused home c.in-Call.at)

-- ---- an intrinsic
pub returns-in-Some-clause-code : goal.returns-in-Some-clause-code
returns-in-Some-clause-code c =
    let a = c.args in
    let i = c.in-Intrinsic in
    let home = homes_of a.lowerer.now.homes.now in
    subst (λ r. IsFirstWithout home (parts_in (assign_tree no_callees a.to.now a.op r a.cond.now a.span done)) i.at) (sym i.is)
    (subst (λ p. IsFirstWithout home (parts_in (instruction_tree a.to.now p i.name i.args a.cond.now i.at done)) i.at) (sym c.in-Some.is) (updated_refused home a.to.now c.in-Some.field-0 i.name i.args a.cond.now i.at))

pub returns-in_ok-made-in-None-clause-made : goal.returns-in_ok-made-in-None-clause-made
returns-in_ok-made-in-None-clause-made c =
    let a = c.args in
    let i = c.in-Intrinsic in
    let m = c.in_ok-made-in-None.made in
    becomes_as (homes_of a.lowerer.now.homes.now) (instruction_tree a.to.now None i.name i.args a.cond.now i.at) (assign_tree no_callees a.to.now a.op a.rhs.now a.cond.now a.span) m.nodes m.steps
    (ap (λ r. assign_tree no_callees a.to.now a.op r a.cond.now a.span) i.is ∙ ap (λ p. instruction_tree a.to.now p i.name i.args a.cond.now i.at) c.in-None.is) c.in_ok-made-in-None.ensures.made

pub returns-in_ok-made-in-None-clause-code : goal.returns-in_ok-made-in-None-clause-code
returns-in_ok-made-in-None-clause-code c =
    let a = c.args in
    let i = c.in-Intrinsic in
    let home = homes_of a.lowerer.now.homes.now in
    subst (λ r. All (HasCode home) (parts_in (assign_tree no_callees a.to.now a.op r a.cond.now a.span done))) (sym i.is)
    (subst (λ p. All (HasCode home) (parts_in (instruction_tree a.to.now p i.name i.args a.cond.now i.at done))) (sym c.in-None.is) c.in_ok-made-in-None.ensures.code)

pub returns-in_err-made-in-None-clause-code : goal.returns-in_err-made-in-None-clause-code
returns-in_err-made-in-None-clause-code c =
    let a = c.args in
    let i = c.in-Intrinsic in
    let home = homes_of a.lowerer.now.homes.now in
    handed (HaveCode home (parts_in (instruction_tree a.to.now None i.name i.args a.cond.now i.at done))) (HaveCode home (parts_in (assign_tree no_callees a.to.now a.op a.rhs.now a.cond.now a.span done))) c.from_residual-in_err-made-in-None.result c.in_err-made-in-None.field-0.0 c.from_residual-in_err-made-in-None.ensures.1 c.in_err-made-in-None.ensures.code
    (λ at first. subst (λ r. IsFirstWithout home (parts_in (assign_tree no_callees a.to.now a.op r a.cond.now a.span done)) at) (sym i.is) (subst (λ p. IsFirstWithout home (parts_in (instruction_tree a.to.now p i.name i.args a.cond.now i.at done)) at) (sym c.in-None.is) first))
