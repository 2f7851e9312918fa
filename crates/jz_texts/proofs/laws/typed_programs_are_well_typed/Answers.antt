use Rattle.jz_texts.proofs.Declaring.{well_typed_law}
use Rattle.jz_texts.proofs.laws.typed_programs_are_well_typed.Goals as goal

pub returns : goal.returns
returns c = well_typed_law
