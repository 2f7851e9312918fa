-- The kinds of variables by what typing knows of them.
use Rattle.std.proofs.Common.{◌≡◌, true, Some, None, refl, ap}
use Rattle.std.proofs.lemmas.Bool.{false≢true}
use Rattle.jz_tree.specs.Size.{Size}
use Rattle.jz_tree.specs.declared.expr.Storage.{Storage}
use Rattle.jz_tree.specs.declared.expr.Storage.TheVariants as storage
use Rattle.jz_type_names.specs.declared.kinds.Kind as known
use Rattle.jz_type_names.specs.declared.kinds.Kind.TheVariants as scope
use Rattle.jz_type_names.specs.declared.kinds.Declared.{Declared}
use Rattle.jz_type_names.specs.Kinds.{Known, is_inline_int, inline_int}
use Rattle.jz_type_sizes.specs.Wants.{known_size}
use Rattle.jz_judgement.specs.Places.{WordKind, IsWordOf}
use Rattle.jz_judgement.specs.Lefts.{BoolKind, IsBool, NumberKind, IsNumber}
use Rattle.jz_meaning.specs.declared.access.Kind as meant
use Rattle.jz_meaning.specs.declared.access.Kind.TheVariants as kind
use Rattle.jz_run_laws.proofs.SameKinds as same
use Rattle.jz_run_laws.proofs.SameKinds.{SameKind, SameKnown}

inline_kind : (s : Storage) (k : known.Kind) → inline_int s k ≡ true → NumberKind k
inline_kind storage.Inline scope.Int e = tt
inline_kind s k e = absurd (false≢true e)

-- an inline integer that is declared
pub inline_number : (d : Declared) → is_inline_int (Some d) ≡ true → IsNumber (Some d)
inline_number d e = inline_kind d.storage d.kind e

word_same : (k : known.Kind) (m : meant.Kind) (z : Size) → SameKind k m → WordKind z k → m ≡ kind.Word z
word_same k m z same.int g = absurd g
word_same k m z same.bool g = absurd g
word_same k m z (same.word y) g = ap (λ x. kind.Word x) g
word_same k m z (same.array y n) g = absurd g

pub word_of : (k : Known) (m : meant.Kind) (z : Size) → SameKnown k m → IsWordOf z k → m ≡ kind.Word z
word_of None m z e g = absurd g
word_of (Some d) m z e g = word_same d.kind m z e g

bool_same : (k : known.Kind) (m : meant.Kind) → SameKind k m → BoolKind k → m ≡ kind.Bool
bool_same k m same.int g = absurd g
bool_same k m same.bool g = refl
bool_same k m (same.word y) g = absurd g
bool_same k m (same.array y n) g = absurd g

pub bool_of : (k : Known) (m : meant.Kind) → SameKnown k m → IsBool k → m ≡ kind.Bool
bool_of None m e g = absurd g
bool_of (Some d) m e g = bool_same d.kind m e g

number_same : (k : known.Kind) (m : meant.Kind) → SameKind k m → NumberKind k → m ≡ kind.Int
number_same k m same.int g = refl
number_same k m same.bool g = absurd g
number_same k m (same.word y) g = absurd g
number_same k m (same.array y n) g = absurd g

pub number_of : (k : Known) (m : meant.Kind) → SameKnown k m → IsNumber k → m ≡ kind.Int
number_of None m e g = absurd g
number_of (Some d) m e g = number_same d.kind m e g

bool_again : (k : known.Kind) (m : meant.Kind) → SameKind k m → m ≡ kind.Bool → BoolKind k
bool_again k m same.int e = absurd (clash e)
  where
    clash : kind.Int ≡ kind.Bool → ⊥
    clash e = cc
bool_again k m same.bool e = tt
bool_again k m (same.word y) e = absurd (clash e)
  where
    clash : kind.Word y ≡ kind.Bool → ⊥
    clash e = cc
bool_again k m (same.array y n) e = absurd (clash e)
  where
    clash : kind.Array y n ≡ kind.Bool → ⊥
    clash e = cc

-- what a run takes for a bool
pub is_bool_of : (k : Known) (m : meant.Kind) → SameKnown k m → m ≡ kind.Bool → IsBool k
is_bool_of None m s e = absurd (clash m s e)
  where
    clash : (m : meant.Kind) → m ≡ kind.Undeclared → m ≡ kind.Bool → ⊥
    clash m s e = cc
is_bool_of (Some d) m s e = bool_again d.kind m s e

-- an integer has no size
no_size : (k : known.Kind) → NumberKind k → known_size (Some (record { storage = storage.Inline; kind = k })) ≡ None
no_size scope.Int n = refl
no_size scope.Truth n = absurd n
no_size (scope.Word z) n = absurd n
no_size (scope.Array z) n = absurd n

pub number_unsized : (k : Known) → IsNumber k → known_size k ≡ None
number_unsized None n = absurd n
number_unsized (Some d) n = no_size d.kind n
