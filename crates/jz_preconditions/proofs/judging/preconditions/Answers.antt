use Rattle.std.proofs.Common.{sym, ap, ◌∙◌}
use Rattle.jz_preconditions.specs.Stating.{pres_of}
use Rattle.jz_preconditions.specs.Refusals.{refused_places}
use Rattle.jz_preconditions.proofs.Joined.{earliest_none}
use Rattle.jz_preconditions.proofs.judging.preconditions.Goals as goal

pub returns-in_ok-pres-in-None : goal.returns-in_ok-pres-in-None
returns-in_ok-pres-in-None c = (
  c.in_ok-pres-in-None.ensures ∙ ap pres_of c.in_ok-stated.ensures.stated,
  earliest_none (refused_places c.args.fun.now) (sym c.in-None.is ∙ c.in_ok-stated.ensures.refused),
)
