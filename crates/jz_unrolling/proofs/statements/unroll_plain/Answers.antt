use Rattle.std.proofs.Common.{◌∷◌, [], refl, sym, subst}
use Rattle.jz_tree.specs.declared.stmt.StmtKind.TheVariants as kind
use Rattle.jz_tree.specs.declared.stmt.Rhs.TheVariants as rhs
use Rattle.jz_runs.specs.Trees.{op}
use Rattle.jz_unrolling_values.specs.InlineNames.{names_in}
use Rattle.jz_unrolling.specs.Steps.{Adds, setting_of}
use Rattle.jz_unrolling.proofs.AddLemmas.{plain_adds}
use Rattle.jz_unrolling.proofs.statements.unroll_plain.Goals as goal

pub returns : goal.returns
returns c =
    let names = names_in c.args.unroller.now.vars.now in
    let s = c.args.setting.now in
    let k = c.args.known.now in
    subst (λ z. Adds names (op (setting_of s c.args.stmt.now.span)) k k c.args.out.now c.push.new.self (z ∷ [])) (sym c.in_ok-step.ensures)
    (plain_adds names s.to.now c.in_ok-to.to s.op s.value.now c.in_ok-value.value s.cond.now c.in_ok-cond.cond c.args.stmt.now.span k c.args.out.now c.push.new.self
    (record { notes = c.in_ok-copy_notes.field-0; span = c.args.stmt.now.span; kind = kind.Assign c.in_ok-to.to s.op (rhs.Value c.in_ok-value.value) c.in_ok-cond.cond })
    refl refl c.in_ok-to.ensures.copy c.in_ok-value.ensures.copy c.in_ok-cond.ensures.copy c.in_ok-to.ensures.known c.in_ok-value.ensures.known c.in_ok-cond.ensures.known
    (c.stands_apart.ensures.0 c.if-not-stands_apart.false) c.in_ok-push.ensures.ok)
