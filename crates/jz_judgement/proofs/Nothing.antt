-- Where nothing is wrong, and what fits a place.
use Rattle.std.proofs.Common.{◌≡◌, true, false, not, List, [], ◌∷◌, ◌++◌, Option, Some, None, refl, ap₂, subst}
use Rattle.std.specs.Prelude.{if◌then◌else◌}
use Rattle.std.proofs.lemmas.Bool.{false≢true}
use Rattle.std.specs.Option.{option_or}
use Rattle.jz_tree.specs.Span.{Span}
use Rattle.jz_tree.specs.Size.{Size}
use Rattle.jz_tree.specs.Size.TheVariants as sizes
use Rattle.jz_type_names.specs.Order.{unless}
use Rattle.jz_type_names.specs.Kinds.{same_size}
use Rattle.jz_type_names.proofs.Empty.{one_not}
use Rattle.jz_type_sizes.specs.Wants.{fits_int, fits_truth, fits_word}
use Rattle.jz_judgement.specs.Places.{Place, integer, truth, word, stated, unsized, IsTruth, TakesNumber, TakesWord}
use Rattle.jz_judgement.specs.Agreement.{want_of}

-- ---- lists and tests
pub some_not : {A : Type 0} (a : A) → Some a ≡ None → ⊥
some_not a e = cc

pub none_not : {A : Type 0} (a : A) → None ≡ Some a → ⊥
none_not a e = cc

pub same_some : {A : Type 0} (a b : A) → Some a ≡ Some b → a ≡ b
same_some a b e = cc

-- ---- sizes
pub size_same : (y z : Size) → same_size y z ≡ true → y ≡ z
size_same sizes.S8 sizes.S8 e = refl
size_same sizes.S16 sizes.S16 e = refl
size_same sizes.S32 sizes.S32 e = refl
size_same sizes.S64 sizes.S64 e = refl
size_same y z e = absurd (false≢true e)

pub same_self : (z : Size) → same_size z z ≡ true
same_self sizes.S8 = refl
same_self sizes.S16 = refl
same_self sizes.S32 = refl
same_self sizes.S64 = refl

pub same_sizes : (y z : Size) → y ≡ z → same_size y z ≡ true
same_sizes y z e = subst (λ x. same_size y x ≡ true) e (same_self y)

pub neither_size : (a b : Option Size) → option_or a b ≡ None → (a ≡ None) × (b ≡ None)
neither_size None b e = (refl, e)
neither_size (Some z) b e = absurd (some_not z e)

pub no_sizes : (a b : Option Size) → a ≡ None → b ≡ None → option_or a b ≡ None
no_sizes a b p q = ap₂ option_or p q

-- ---- places
pub number_goes : (p : Place) → fits_int (want_of p) ≡ true → TakesNumber p
number_goes integer e = tt
number_goes truth e = absurd (false≢true e)
number_goes (word z) e = tt
number_goes (stated x) e = tt
number_goes unsized e = tt

pub number_fits : (p : Place) → TakesNumber p → fits_int (want_of p) ≡ true
number_fits integer h = refl
number_fits truth h = absurd h
number_fits (word z) h = refl
number_fits (stated x) h = refl
number_fits unsized h = refl

pub truth_goes : (p : Place) → fits_truth (want_of p) ≡ true → IsTruth p
truth_goes truth e = tt
truth_goes integer e = absurd (false≢true e)
truth_goes (word z) e = absurd (false≢true e)
truth_goes (stated x) e = absurd (false≢true e)
truth_goes unsized e = absurd (false≢true e)

pub truth_fits : (p : Place) → IsTruth p → fits_truth (want_of p) ≡ true
truth_fits truth h = refl
truth_fits integer h = absurd h
truth_fits (word z) h = absurd h
truth_fits (stated x) h = absurd h
truth_fits unsized h = absurd h

pub number_no_truth : (p : Place) → TakesNumber p → fits_truth (want_of p) ≡ true → ⊥
number_no_truth integer h e = false≢true e
number_no_truth truth h e = h
number_no_truth (word z) h e = false≢true e
number_no_truth (stated x) h e = false≢true e
number_no_truth unsized h e = false≢true e

pub word_goes : (z : Size) (p : Place) → fits_word z (want_of p) ≡ true → TakesWord z p
word_goes z integer e = absurd (false≢true e)
word_goes z truth e = absurd (false≢true e)
word_goes z (word y) e = size_same z y e
word_goes z (stated x) e = size_same z x e
word_goes z unsized e = absurd (false≢true e)

pub word_fits : (z : Size) (p : Place) → TakesWord z p → fits_word z (want_of p) ≡ true
word_fits z integer h = absurd h
word_fits z truth h = absurd h
word_fits z (word y) h = same_sizes z y h
word_fits z (stated x) h = same_sizes z x h
word_fits z unsized h = absurd h

pub is_truth : (p : Place) → IsTruth p → p ≡ truth
is_truth truth h = refl
is_truth integer h = absurd h
is_truth (word z) h = absurd h
is_truth (stated x) h = absurd h
is_truth unsized h = absurd h

-- what is wrong where a bool is no answer
pub no_bool : (p : Place) (at : Span) (xs : List Span) → unless (not (fits_truth (want_of p))) at ++ (if fits_truth (want_of p) then [] else xs) ≡ [] → TakesNumber p × (xs ≡ [])
no_bool truth at xs e = absurd (one_not at [] e)
no_bool integer at xs e = (tt, e)
no_bool (word z) at xs e = (tt, e)
no_bool (stated x) at xs e = (tt, e)
no_bool unsized at xs e = (tt, e)

pub no_bool_so : (p : Place) (at : Span) (xs : List Span) → TakesNumber p → xs ≡ [] → unless (not (fits_truth (want_of p))) at ++ (if fits_truth (want_of p) then [] else xs) ≡ []
no_bool_so truth at xs h e = absurd h
no_bool_so integer at xs h e = e
no_bool_so (word z) at xs h e = e
no_bool_so (stated x) at xs h e = e
no_bool_so unsized at xs h e = e

-- what is wrong where a bool is the answer
pub a_bool : (p : Place) (at : Span) (xs : List Span) → unless (fits_truth (want_of p)) at ++ xs ≡ [] → IsTruth p × (xs ≡ [])
a_bool truth at xs e = (tt, e)
a_bool integer at xs e = absurd (one_not at xs e)
a_bool (word z) at xs e = absurd (one_not at xs e)
a_bool (stated x) at xs e = absurd (one_not at xs e)
a_bool unsized at xs e = absurd (one_not at xs e)
