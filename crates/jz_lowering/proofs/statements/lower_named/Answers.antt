use Rattle.std.proofs.Common.{[], ◌∷◌, None, ap, sym, subst}
use Rattle.std.specs.Prelude.{All}
use Rattle.jz_runs.specs.Trees.{done, op}
use Rattle.jz_meaning.specs.Runs.{instruction_tree}
use Rattle.jz_meaning.specs.Statements.{instruction}
use Rattle.jz_operands.specs.TableHomes.{homes_of}
use Rattle.jz_lowering.specs.Parts.{does, parts_in, HasCode, IsFirstWithout, HaveCode}
use Rattle.jz_homing.proofs.HandedOn.{handed}
use Rattle.jz_lowering.proofs.PartsInOrder.{chosen_refused}
use Rattle.jz_lowering.proofs.BecomingLemmas.{becomes_as}
use Rattle.jz_lowering.proofs.statements.lower_named.Goals as goal

pub returns-in-Some-clause-code : goal.returns-in-Some-clause-code
returns-in-Some-clause-code c =
    let a = c.args in
    let home = homes_of a.lowerer.now.homes.now in
    subst (λ k. IsFirstWithout home (parts_in (instruction_tree a.to.now None a.name.now a.args.now k a.at done)) a.at) (sym c.in-Some.is) (chosen_refused home a.to.now a.name.now a.args.now c.in-Some.field-0 a.at)

pub returns-in_ok-made-in-None-clause-made : goal.returns-in_ok-made-in-None-clause-made
returns-in_ok-made-in-None-clause-made c =
    let a = c.args in
    let m = c.in_ok-made-in-None.made in
    becomes_as (homes_of a.lowerer.now.homes.now) (op (instruction a.to.now a.name.now a.args.now a.at)) (instruction_tree a.to.now None a.name.now a.args.now a.cond.now a.at) m.nodes m.steps
    (ap (λ k. instruction_tree a.to.now None a.name.now a.args.now k a.at) c.in-None.is) c.in_ok-made-in-None.ensures.made

pub returns-in_ok-made-in-None-clause-code : goal.returns-in_ok-made-in-None-clause-code
returns-in_ok-made-in-None-clause-code c =
    let a = c.args in
    subst (λ k. All (HasCode (homes_of a.lowerer.now.homes.now)) (parts_in (instruction_tree a.to.now None a.name.now a.args.now k a.at done))) (sym c.in-None.is) c.in_ok-made-in-None.ensures.code

pub returns-in_err-made-in-None-clause-code : goal.returns-in_err-made-in-None-clause-code
returns-in_err-made-in-None-clause-code c =
    let a = c.args in
    let home = homes_of a.lowerer.now.homes.now in
    handed (HaveCode home (does (instruction a.to.now a.name.now a.args.now a.at) ∷ [])) (HaveCode home (parts_in (instruction_tree a.to.now None a.name.now a.args.now a.cond.now a.at done))) c.from_residual.result c.in_err-made-in-None.field-0.0 c.from_residual.ensures.1 c.in_err-made-in-None.ensures.code
    (λ at first. subst (λ k. IsFirstWithout home (parts_in (instruction_tree a.to.now None a.name.now a.args.now k a.at done)) at) (sym c.in-None.is) first)
