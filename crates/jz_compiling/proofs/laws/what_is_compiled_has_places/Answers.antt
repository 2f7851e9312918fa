use Rattle.jz_compiling.proofs.Codeless.{not_codeless}
use Rattle.jz_compiling.proofs.laws.what_is_compiled_has_places.Goals as goal

pub returns : goal.returns
returns c = λ g k made why h less. not_codeless g k made why h less
