use Rattle.jz_judgement.proofs.Expressions.{judged_of}
use Rattle.jz_judgement.proofs.laws.expressions_are_judged.Goals as goal

pub returns : goal.returns
returns c = λ e p. ((judged_of e).agrees.holds p, (judged_of e).agrees.right p)
