use Rattle.std.proofs.Common.{◌∙◌, ◌-◌, ap, subst}
use Rattle.std.specs.Prelude.{replicate}
use Rattle.jz_limits.specs.Limits.{one}
use Rattle.jz_first_limit.specs.declared.met.Met.TheVariants.{Within, Passed}
use Rattle.jz_first_limit.specs.InnerMet.{MeetsSteps}
use Rattle.jz_first_limit.proofs.Steps.{eight_then, eight_stops}
use Rattle.jz_first_limit.proofs.met.past_the_eighth.Goals as goal

pub returns-in-Passed : goal.returns-in-Passed
returns-in-Passed c =
    eight_stops c.args.count c.args.args c.args.results c.in-Passed.limit
    (subst (λ k. MeetsSteps c.args.count (replicate k one) (Passed c.in-Passed.limit)) c.saturating_sub.ensures c.in-Passed.ensures)

pub returns-in-Within : goal.returns-in-Within
returns-in-Within c =
    eight_then c.args.count c.in-Within.count c.args.args c.args.results c.several_more-in-Within.result
    (subst (λ k. MeetsSteps c.args.count (replicate k one) (Within c.in-Within.count)) c.saturating_sub.ensures c.in-Within.ensures)
    (subst (λ k. MeetsSteps c.in-Within.count (replicate k one) c.several_more-in-Within.result)
    (c.saturating_sub-in-Within.ensures ∙ ap (λ f. c.args.results - f) c.saturating_sub-free.ensures) c.several_more-in-Within.ensures)
