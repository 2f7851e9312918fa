use Rattle.std.proofs.Common.{◌≡◌, [], ◌∷◌, sym, ap, ◌∙◌, subst}
use Rattle.jz_runs.specs.Trees.{op}
use Rattle.jz_meaning.specs.Statements.{instruction}
use Rattle.jz_operands.specs.TableHomes.{homes_of}
use Rattle.jz_flag_rows.specs.Results.{begins_at}
use Rattle.jz_lowering.specs.declared.parts.Lowered.{Lowered}
use Rattle.jz_lowering.specs.Becoming.{Becomes}
use Rattle.jz_lowering.specs.Parts.{does, IsFirstWithout}
use Rattle.jz_lowering.specs.InnerParts.{pinned_lowered}
use Rattle.jz_lowering.proofs.PartsInOrder.{instruction_code, instruction_refused}
use Rattle.jz_lowering.proofs.PartLemmas.{instruction_becomes}
use Rattle.jz_lowering.proofs.statements.lower_instruction.Goals as goal

pub returns-in_ok-made-in-Some-clause-made : goal.returns-in_ok-made-in-Some-clause-made
returns-in_ok-made-in-Some-clause-made c =
    let a = c.args in
    let home = homes_of a.lowerer.now.homes.now in
    let made : c.in_ok-made-in-Some.made ≡ pinned_lowered (begins_at a.to.now a.at) c.in-Some.row = c.in_ok-made-in-Some.ensures ∙ ap (λ s. pinned_lowered s c.in-Some.row) c.begins_at-begin.ensures in
    subst (λ (r : Lowered). Becomes home (op (instruction a.to.now a.name.now a.args.now a.at)) r.nodes r.steps) (sym made) (instruction_becomes home a.to.now a.name.now a.args.now a.at c.in-Some.row c.in-Some.ensures)

pub returns-in_ok-made-in-Some-clause-code : goal.returns-in_ok-made-in-Some-clause-code
returns-in_ok-made-in-Some-clause-code c =
    let a = c.args in
    instruction_code (homes_of a.lowerer.now.homes.now) a.to.now a.name.now a.args.now a.at c.in-Some.row c.in-Some.ensures

pub returns-in-None-clause-code : goal.returns-in-None-clause-code
returns-in-None-clause-code c =
    let a = c.args in
    let home = homes_of a.lowerer.now.homes.now in
    subst (IsFirstWithout home (does (instruction a.to.now a.name.now a.args.now a.at) ∷ [])) (sym c.begins_at-begin.ensures) (instruction_refused home a.to.now a.name.now a.args.now a.at c.in-None.ensures)
