use Rattle.std.proofs.Common.{◌≤◌, sym, subst}
use Rattle.jz_limits.specs.Limits.{one, most_statements}
use Rattle.std.specs.Prelude.{replicate}
use Rattle.jz_first_limit.specs.declared.met.Met.TheVariants.{Within}
use Rattle.jz_first_limit.specs.InnerMet.{MeetsSteps}
use Rattle.jz_first_limit.proofs.Steps.{several_fit, several_pass}
use Rattle.jz_first_limit.proofs.met.several_more.Goals as goal

pub returns-in-None : goal.returns-in-None
returns-in-None c = several_pass c.args.count c.args.more c.requires c.in-None.ensures

pub returns-in-Some : goal.returns-in-Some
returns-in-Some c =
    subst (λ m. MeetsSteps c.args.count (replicate c.args.more one) (Within m)) (sym c.in-Some.ensures.0)
    (several_fit c.args.count c.args.more (subst (λ m. m ≤ most_statements) c.in-Some.ensures.0 c.in-Some.ensures.1))
