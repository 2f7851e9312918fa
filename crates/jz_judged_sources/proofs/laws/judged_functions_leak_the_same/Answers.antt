use Rattle.jz_judged_sources.proofs.Sources.{judged_sources}
use Rattle.jz_judged_sources.proofs.laws.judged_functions_leak_the_same.Goals as goal

pub returns : goal.returns
returns c = judged_sources
