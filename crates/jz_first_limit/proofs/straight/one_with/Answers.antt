use Rattle.std.proofs.Common.{◌∙◌, sym}
use Rattle.jz_first_limit.proofs.Steps.{one_stops, one_alone, one_limited}
use Rattle.jz_first_limit.proofs.straight.one_with.Goals as goal

pub returns-in-Passed : goal.returns-in-Passed
returns-in-Passed c = λ ls h. one_stops c.args.count ls c.in-Passed.limit c.in-Passed.ensures

pub returns-in-None : goal.returns-in-None
returns-in-None c = λ ls h. one_alone c.args.count c.in-Within.count ls (sym c.in-None.is ∙ h) c.in-Within.ensures

pub returns-in-Some : goal.returns-in-Some
returns-in-Some c = λ ls h. one_limited c.args.count c.in-Within.count ls c.in-Some.limit (sym c.in-Some.is ∙ h) c.in-Within.ensures
