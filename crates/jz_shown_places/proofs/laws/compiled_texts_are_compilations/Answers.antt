use Rattle.jz_shown_places.proofs.Whole.{cases_stay, is_compilation}
use Rattle.jz_shown_places.proofs.laws.compiled_texts_are_compilations.Goals as goal

pub returns-clause-places : goal.returns-clause-places
returns-clause-places c = λ p f e k h indexed. cases_stay p f e k h indexed

pub returns-clause-compilation : goal.returns-clause-compilation
returns-clause-compilation c = λ p f e k h indexed. is_compilation p f e k h indexed
