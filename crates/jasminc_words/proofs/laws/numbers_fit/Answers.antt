use Rattle.jasminc_words.proofs.NumbersFit.{words_fit}
use Rattle.jasminc_words.proofs.laws.numbers_fit.Goals as goal

pub returns : goal.returns
returns c = words_fit
