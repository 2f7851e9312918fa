use Rattle.std.proofs.Common.{ap, ◌∙◌}
use Rattle.jz_change.specs.Composing.{join}
use Rattle.jz_change.specs.Views.{change_of, steps_of}
use Rattle.jz_change.proofs.Whole.{composed, composed_law}
use Rattle.jz_change.proofs.composing.compose.Goals as goal

pub returns-clause-is : goal.returns-clause-is
returns-clause-is c = composed c.args.a c.args.b c.in_ok-change.change (c.in_ok-change.ensures ∙ ap (λ v. (join (change_of c.args.a) (steps_of v)).change) c.as_slice.ensures)

pub returns-clause-law : goal.returns-clause-law
returns-clause-law c = composed_law c.args.a c.args.b c.in_ok-change.change (c.in_ok-change.ensures ∙ ap (λ v. (join (change_of c.args.a) (steps_of v)).change) c.as_slice.ensures)
