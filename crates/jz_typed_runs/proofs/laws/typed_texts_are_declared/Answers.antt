use Rattle.jz_typed_runs.proofs.Declaring.{declared_law}
use Rattle.jz_typed_runs.proofs.laws.typed_texts_are_declared.Goals as goal

pub returns : goal.returns
returns c = declared_law
