-- What is declared of a variable on the left.
use Rattle.std.proofs.Common.{◌≡◌, true, false, Some, None, refl, sym, ◌∙◌}
use Rattle.std.proofs.lemmas.Bool.{false≢true, true≢false}
use Rattle.jz_tree.specs.Size.{Size}
use Rattle.jz_tree.specs.declared.expr.Storage.{Storage}
use Rattle.jz_tree.specs.declared.expr.Storage.TheVariants as storage
use Rattle.jz_type_names.specs.declared.kinds.Kind.{Kind}
use Rattle.jz_type_names.specs.declared.kinds.Kind.TheVariants as kind
use Rattle.jz_type_names.specs.Kinds.{Known, inline_int, is_inline_int, is_array}
use Rattle.jz_type_sizes.specs.declared.wants.Want.{Want}
use Rattle.jz_type_sizes.specs.declared.wants.Want.TheVariants as want
use Rattle.jz_type_sizes.specs.Wants.{fits_known, known_size, known_truth, fits_int}
use Rattle.jz_judgement.specs.Places.{IsWordOf}
use Rattle.jz_judgement.specs.Lefts.{IsBool, IsNumber}
use Rattle.jz_judgement.proofs.Nothing.{same_sizes}

abbrev of : Storage → Kind → Known
of s k = Some (record { storage = s; kind = k })

-- one of five
pub data Sort (k : Known) : Type 0 where
  an_inline : is_inline_int k ≡ true → Sort k
  a_bool : IsBool k → Sort k
  a_word : (z : Size) → IsWordOf z k → Sort k
  an_array : is_array k ≡ true → Sort k
  a_number : IsNumber k → is_inline_int k ≡ false → Sort k

sort_in : (s : Storage) (k : Kind) → Sort (of s k)
sort_in storage.Inline kind.Int = an_inline refl
sort_in storage.Reg kind.Int = a_number tt refl
sort_in storage.Stack kind.Int = a_number tt refl
sort_in s kind.Truth = a_bool tt
sort_in s (kind.Word z) = a_word z refl
sort_in s (kind.Array z) = an_array refl

pub sort : (k : Known) → Sort k
sort None = an_inline refl
sort (Some d) = sort_in d.storage d.kind

-- ---- an inline integer
pub record IsInline (k : Known) : Type 0 where
  pub bool : known_truth k ≡ false
  pub array : is_array k ≡ false
  pub fits : fits_known k want.Int ≡ true
  pub size : known_size k ≡ None

no_inline_bool : (s : Storage) → inline_int s kind.Truth ≡ true → ⊥
no_inline_bool storage.Reg e = false≢true e
no_inline_bool storage.Stack e = false≢true e
no_inline_bool storage.Inline e = false≢true e

word_not_inline : (s : Storage) (z : Size) → inline_int s (kind.Word z) ≡ false
word_not_inline storage.Reg z = refl
word_not_inline storage.Stack z = refl
word_not_inline storage.Inline z = refl

array_not_inline : (s : Storage) (z : Size) → inline_int s (kind.Array z) ≡ false
array_not_inline storage.Reg z = refl
array_not_inline storage.Stack z = refl
array_not_inline storage.Inline z = refl

inline_in : (s : Storage) (k : Kind) → inline_int s k ≡ true → IsInline (of s k)
inline_in s kind.Int e = record { bool = refl; array = refl; fits = refl; size = refl }
inline_in s kind.Truth e = absurd (no_inline_bool s e)
inline_in s (kind.Word z) e = absurd (true≢false (sym e ∙ word_not_inline s z))
inline_in s (kind.Array z) e = absurd (true≢false (sym e ∙ array_not_inline s z))

pub inline : (k : Known) → is_inline_int k ≡ true → IsInline k
inline None e = record { bool = refl; array = refl; fits = refl; size = refl }
inline (Some d) e = inline_in d.storage d.kind e

-- ---- a bool
pub record IsTruthful (k : Known) : Type 0 where
  pub bool : known_truth k ≡ true
  pub array : is_array k ≡ false
  pub fits : fits_known k want.Truth ≡ true

truthful_in : (s : Storage) (k : Kind) → IsBool (of s k) → IsTruthful (of s k)
truthful_in s kind.Int h = absurd h
truthful_in s kind.Truth h = record { bool = refl; array = refl; fits = refl }
truthful_in s (kind.Word z) h = absurd h
truthful_in s (kind.Array z) h = absurd h

pub truthful : (k : Known) → IsBool k → IsTruthful k
truthful None h = absurd h
truthful (Some d) h = truthful_in d.storage d.kind h

bool_in : (s : Storage) (k : Kind) → known_truth (of s k) ≡ true → IsBool (of s k)
bool_in s kind.Int h = false≢true h
bool_in s kind.Truth h = tt
bool_in s (kind.Word z) h = false≢true h
bool_in s (kind.Array z) h = false≢true h

pub is_bool : (k : Known) → known_truth k ≡ true → IsBool k
is_bool None h = false≢true h
is_bool (Some d) h = bool_in d.storage d.kind h

-- ---- a word
pub record IsWord (z : Size) (k : Known) : Type 0 where
  pub bool : known_truth k ≡ false
  pub known : is_inline_int k ≡ false
  pub array : is_array k ≡ false
  pub fits : fits_known k (want.Word z) ≡ true

word_in : (z : Size) (s : Storage) (k : Kind) → IsWordOf z (of s k) → IsWord z (of s k)
word_in z s kind.Int h = absurd h
word_in z s kind.Truth h = absurd h
word_in z s (kind.Word y) h = record { bool = refl; known = word_not_inline s y; array = refl; fits = same_sizes y z h }
word_in z s (kind.Array y) h = absurd h

pub word : (z : Size) (k : Known) → IsWordOf z k → IsWord z k
word z None h = absurd h
word z (Some d) h = word_in z d.storage d.kind h

-- ---- an array
pub record IsWhole (k : Known) : Type 0 where
  pub bool : known_truth k ≡ false
  pub known : is_inline_int k ≡ false
  pub size : known_size k ≡ None

whole_in : (s : Storage) (k : Kind) → is_array (of s k) ≡ true → IsWhole (of s k)
whole_in s kind.Int h = absurd (false≢true h)
whole_in s kind.Truth h = absurd (false≢true h)
whole_in s (kind.Word y) h = absurd (false≢true h)
whole_in s (kind.Array y) h = record { bool = refl; known = array_not_inline s y; size = refl }

pub whole : (k : Known) → is_array k ≡ true → IsWhole k
whole None h = absurd (false≢true h)
whole (Some d) h = whole_in d.storage d.kind h

-- ---- an integer that is not inline
pub record IsOther (k : Known) : Type 0 where
  pub bool : known_truth k ≡ false
  pub array : is_array k ≡ false
  pub fits : (w : Want) → fits_known k w ≡ fits_int w
  pub size : known_size k ≡ None

other_in : (s : Storage) (k : Kind) → IsNumber (of s k) → IsOther (of s k)
other_in s kind.Int h = record { bool = refl; array = refl; fits = λ w. refl; size = refl }
other_in s kind.Truth h = absurd h
other_in s (kind.Word y) h = absurd h
other_in s (kind.Array y) h = absurd h

pub other : (k : Known) → IsNumber k → IsOther k
other None h = absurd h
other (Some d) h = other_in d.storage d.kind h
