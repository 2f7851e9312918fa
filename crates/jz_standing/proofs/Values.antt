-- The laws of what comes out.
use Rattle.std.proofs.Common.{◌≡◌, ℕ, Option, Bool, sym, subst}
use Rattle.x64_insn.specs.Size.{Size}
use Rattle.jz_meaning.specs.States.{Value, word, boolean, integer}
use Rattle.jz_meaning.specs.Values.{Meaning}
use Rattle.jz_terms.specs.Terms.{term_of, means}
use Rattle.jz_terms.proofs.Bridge.{term_so}
use Rattle.jz_fact_laws.specs.Saying.{Yields, is_number}
use Rattle.jz_fact_laws.proofs.Fitting.{yields_all}
use Rattle.jz_standing.specs.ValueLaws.{IsWordOf, IsBoolean, WordsAreWords, AnswersAreBooleans}
use Rattle.jz_standing.proofs.Making.{OfSize, IsTruth}
use Rattle.jz_standing.proofs.Typed.{typed, answered}

sized : (z : Size) (k : Bool) (v : Value) → OfSize z k v → IsWordOf z v
sized z k (word y n) h = h
sized z k (integer i) h = tt
sized z k (boolean c) h = absurd h

true_or_false : (v : Value) → IsTruth v → IsBoolean v
true_or_false (boolean c) h = tt
true_or_false (word y n) h = absurd h
true_or_false (integer i) h = absurd h

pub words_are_words : WordsAreWords
words_are_words g kinds in_frame entry s st nn H e w z i =
    subst (λ (m : Meaning). Yields (IsWordOf z) (m.run w st)) (sym (term_so e))
    (yields_all (OfSize z (is_number (term_of e))) (IsWordOf z) ((means (term_of e)).run w st) (sized z (is_number (term_of e))) (typed g kinds in_frame entry s st H (term_of e) w z i))

pub answers_are_booleans : AnswersAreBooleans
answers_are_booleans g kinds in_frame entry s st nn H e w i =
    subst (λ (m : Meaning). Yields IsBoolean (m.run w st)) (sym (term_so e))
    (yields_all IsTruth IsBoolean ((means (term_of e)).run w st) true_or_false (answered g kinds in_frame entry s st H (term_of e) w i))
