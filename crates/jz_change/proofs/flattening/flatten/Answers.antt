use Rattle.std.proofs.Common.{sym, subst}
use Rattle.jz_leak.specs.declared.transformer.Tr.{Tr}
use Rattle.jz_change.specs.Views.{change_of}
use Rattle.jz_change.specs.Flattening.{Flattens}
use Rattle.jz_change.proofs.FlatEvents.{flattens}
use Rattle.jz_change.proofs.flattening.flatten.Goals as goal

pub returns-clause-law : goal.returns-clause-law
returns-clause-law c =
    subst (λ (b : Tr). Flattens (change_of c.args.a) c.args.last (record { before = c.args.last.before; body = b; after = c.args.last.after })) (sym c.in_ok-body.ensures) (flattens (change_of c.args.a) c.args.last)
