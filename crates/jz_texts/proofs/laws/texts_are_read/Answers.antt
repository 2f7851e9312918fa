use Rattle.jz_texts.proofs.Reading.{read_so}
use Rattle.jz_texts.proofs.laws.texts_are_read.Goals as goal

pub returns : goal.returns
returns c = read_so
