use Rattle.std.proofs.Common.{refl}
use Rattle.jz_tree.specs.declared.stmt.StmtKind.TheVariants as kind
use Rattle.jz_unrolling_values.specs.InlineNames.{names_in}
use Rattle.jz_unrolling.proofs.AddLemmas.{mark_adds}
use Rattle.jz_unrolling.proofs.statements.unroll_mark.Goals as goal

pub returns : goal.returns
returns c =
    mark_adds (names_in c.args.unroller.now.vars.now) c.args.vars.now c.in_ok-plain.plain c.args.known.now c.forget.new.self c.args.out.now c.push.new.self
    (record { notes = c.in_ok-copy_notes.field-0; span = c.args.stmt.now.span; kind = kind.Mark c.in_ok-plain.plain })
    refl c.in_ok-plain.ensures c.in_ok-forget.ensures.numbers c.in_ok-forget.ensures.went c.in_ok-push.ensures.ok
