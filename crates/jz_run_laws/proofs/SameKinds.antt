-- What typing and evaluation each know of a variable.
use Rattle.std.proofs.Common.{◌≡◌, false, Some, None, refl, ap}
use Rattle.std.proofs.lemmas.Bool.{true≢false}
use Rattle.jz_tree.specs.Size.{Size}
use Rattle.jz_type_names.specs.declared.kinds.Kind as known
use Rattle.jz_type_names.specs.declared.kinds.Kind.TheVariants as scope
use Rattle.jz_type_names.specs.Kinds.{Known, is_array, is_array_kind}
use Rattle.jz_type_sizes.specs.Wants.{known_size, word_size, cell_size, array_size}
use Rattle.jz_judgement.specs.Places.{Place, Goes, KindGoes, IsArrayOf, ArrayKind}
use Rattle.jz_meaning.specs.declared.access.Kind as meant
use Rattle.jz_meaning.specs.declared.access.Kind.TheVariants as kind
use Rattle.jz_meaning.specs.Values.{size_of}
use Rattle.std.specs.Prelude.{ℕ}

pub data SameKind : known.Kind → meant.Kind → Type 0 where
  int : SameKind scope.Int kind.Int
  bool : SameKind scope.Truth kind.Bool
  word : (z : Size) → SameKind (scope.Word z) (kind.Word z)
  array : (z : Size) (n : ℕ) → SameKind (scope.Array z) (kind.Array z n)

abbrev pub SameKnown : Known → meant.Kind → Type 0
SameKnown None m = m ≡ kind.Undeclared
SameKnown (Some d) m = SameKind d.kind m

kind_one : (k : known.Kind) (m : meant.Kind) (p : Place) → SameKind k m → KindGoes k p → size_of m ≡ word_size k
kind_one k m p int g = refl
kind_one k m p bool g = refl
kind_one k m p (word z) g = refl
kind_one k m p (array z n) g = absurd g

pub known_one : (k : Known) (m : meant.Kind) (p : Place) → SameKnown k m → Goes k p → size_of m ≡ known_size k
known_one None m p same g = ap size_of same
known_one (Some d) m p same g = kind_one d.kind m p same g

kind_cells : (k : known.Kind) (m : meant.Kind) (z : Size) → SameKind k m → ArrayKind z k → size_of m ≡ array_size k
kind_cells k m y int g = absurd g
kind_cells k m y bool g = absurd g
kind_cells k m y (word z) g = absurd g
kind_cells k m y (array z n) g = refl

pub known_cells : (k : Known) (m : meant.Kind) (z : Size) → SameKnown k m → IsArrayOf z k → size_of m ≡ cell_size k
known_cells None m z same g = absurd g
known_cells (Some d) m z same g = kind_cells d.kind m z same g

kind_plain : (k : known.Kind) (m : meant.Kind) → SameKind k m → is_array_kind k ≡ false → size_of m ≡ word_size k
kind_plain k m int g = refl
kind_plain k m bool g = refl
kind_plain k m (word z) g = refl
kind_plain k m (array z n) g = absurd (true≢false g)

pub known_plain : (k : Known) (m : meant.Kind) → SameKnown k m → is_array k ≡ false → size_of m ≡ known_size k
known_plain None m same g = ap size_of same
known_plain (Some d) m same g = kind_plain d.kind m same g
