use Rattle.jz_typed_runs.proofs.Numbers.{numbers}
use Rattle.jz_typed_runs.proofs.laws.numbers_depend_on_the_text.Goals as goal

pub returns : goal.returns
returns c = numbers
