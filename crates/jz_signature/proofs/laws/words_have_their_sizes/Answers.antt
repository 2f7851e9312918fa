use Rattle.jz_signature.proofs.Sized.{sized}
use Rattle.jz_signature.proofs.laws.words_have_their_sizes.Goals as goal

pub returns : goal.returns
returns c = λ g home differ are y x among is n z e. sized g home differ are y x among is n z e
