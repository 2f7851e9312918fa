use Rattle.jz_source_leaks.proofs.Whole.{expansions_lose_nothing, sources_same}
use Rattle.jz_source_leaks.proofs.laws.functions_leak_the_same.Goals as goal

pub returns-clause-lossless : goal.returns-clause-lossless
returns-clause-lossless c = expansions_lose_nothing

pub returns-clause-constant : goal.returns-clause-constant
returns-clause-constant c = sources_same
