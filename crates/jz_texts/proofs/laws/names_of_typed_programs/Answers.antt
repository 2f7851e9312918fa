use Rattle.jz_texts.proofs.Declaring.{declarations_law}
use Rattle.jz_texts.proofs.laws.names_of_typed_programs.Goals as goal

pub returns : goal.returns
returns c = declarations_law
