use Rattle.jz_standing.proofs.Values.{words_are_words, answers_are_booleans}
use Rattle.jz_standing.proofs.laws.values_are_of_their_kind.Goals as goal

pub returns-clause-words : goal.returns-clause-words
returns-clause-words c = words_are_words

pub returns-clause-answers : goal.returns-clause-answers
returns-clause-answers c = answers_are_booleans
