use Rattle.jz_judged.proofs.Texts.{judged_alike, checked_alike}
use Rattle.jz_judged.proofs.laws.judged_functions_leak_alike.Goals as goal

pub returns-clause-judged : goal.returns-clause-judged
returns-clause-judged c = judged_alike

pub returns-clause-checked : goal.returns-clause-checked
returns-clause-checked c = checked_alike
