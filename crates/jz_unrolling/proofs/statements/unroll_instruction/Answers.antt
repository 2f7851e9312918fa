use Rattle.std.proofs.Common.{◌∷◌, [], None, ap, sym, subst}
use Rattle.jz_tree.specs.declared.stmt.StmtKind.TheVariants as kind
use Rattle.jz_tree.specs.declared.stmt.Rhs.TheVariants as rhs
use Rattle.jz_runs.specs.Trees.{op}
use Rattle.jz_meaning.specs.Statements.{instruction}
use Rattle.jz_unrolling_values.specs.InlineNames.{names_in}
use Rattle.jz_unrolling.specs.Steps.{Adds}
use Rattle.jz_unrolling.proofs.AddLemmas.{instruction_adds}
use Rattle.jz_unrolling.proofs.statements.unroll_instruction.Goals as goal

pub returns : goal.returns
returns c =
    let names = names_in c.args.unroller.now.vars.now in
    let i = c.args.named.now in
    subst (λ s. Adds names (op (instruction i.to.now i.name.now i.args.now i.at)) c.args.known.now c.args.known.now c.args.out.now c.push.new.self (s ∷ [])) (sym c.in_ok-step.ensures)
    (instruction_adds names i.to.now c.in_ok-to.to i.name.now i.args.now c.in_ok-args.args i.at c.args.known.now c.args.out.now c.push.new.self
    (record { notes = c.in_ok-copy_notes.field-0; span = c.args.stmt.now.span; kind = kind.Assign c.in_ok-to.to None (rhs.Intrinsic c.in_ok-name.name c.in_ok-args.args i.at) None })
    (ap (λ n. kind.Assign c.in_ok-to.to None (rhs.Intrinsic n c.in_ok-args.args i.at) None) (sym c.in_ok-name.ensures.cases))
    c.in_ok-to.ensures.copy c.in_ok-args.ensures.copy c.in_ok-to.ensures.known c.in_ok-args.ensures.known c.in_ok-push.ensures.ok)
