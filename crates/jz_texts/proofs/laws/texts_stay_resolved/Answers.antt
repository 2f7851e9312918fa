use Rattle.jz_texts.proofs.Resolved.{stays}
use Rattle.jz_texts.proofs.laws.texts_stay_resolved.Goals as goal

pub returns : goal.returns
returns c = stays
