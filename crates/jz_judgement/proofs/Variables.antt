-- What is declared of a variable, and where it goes.
use Rattle.std.proofs.Common.{◌≡◌, true, false, Option, Some, None, refl, sym, ap, ◌∙◌}
use Rattle.std.proofs.lemmas.Bool.{false≢true}
use Rattle.jz_tree.specs.Size.{Size}
use Rattle.jz_tree.specs.declared.expr.Storage.{Storage}
use Rattle.jz_tree.specs.declared.expr.Storage.TheVariants as storage
use Rattle.jz_type_names.specs.declared.kinds.Kind.{Kind}
use Rattle.jz_type_names.specs.declared.kinds.Kind.TheVariants as kind
use Rattle.jz_type_names.specs.Kinds.{Known, inline_int, is_inline_int}
use Rattle.jz_type_sizes.specs.declared.wants.Want.TheVariants as want
use Rattle.jz_type_sizes.specs.Wants.{fits_kind, fits_known, fits_cell, word_size, known_size, array_size, cell_size, is_truth, known_truth}
use Rattle.jz_judgement.specs.Places.{Place, TakesNumber, TakesWord, KindGoes, Goes, WordKind, IsWordOf, ArrayKind, IsArrayOf}
use Rattle.jz_judgement.specs.Agreement.{want_of}
use Rattle.jz_judgement.proofs.Nothing.{some_not, none_not, same_some, size_same, number_goes, number_fits, truth_goes, truth_fits, number_no_truth, word_goes, word_fits}

-- ---- in places
kind_goes : (k : Kind) (p : Place) → fits_kind k (want_of p) ≡ true → KindGoes k p
kind_goes kind.Int p e = number_goes p e
kind_goes kind.Truth p e = truth_goes p e
kind_goes (kind.Word z) p e = word_goes z p e
kind_goes (kind.Array z) p e = absurd (false≢true e)

kind_fits : (k : Kind) (p : Place) → KindGoes k p → fits_kind k (want_of p) ≡ true
kind_fits kind.Int p h = number_fits p h
kind_fits kind.Truth p h = truth_fits p h
kind_fits (kind.Word z) p h = word_fits z p h
kind_fits (kind.Array z) p h = absurd h

pub known_goes : (k : Known) (p : Place) → fits_known k (want_of p) ≡ true → Goes k p
known_goes None p e = number_goes p e
known_goes (Some d) p e = kind_goes d.kind p e

pub known_fits : (k : Known) (p : Place) → Goes k p → fits_known k (want_of p) ≡ true
known_fits None p h = number_fits p h
known_fits (Some d) p h = kind_fits d.kind p h

kind_cell : (k : Kind) (p : Place) → fits_cell (array_size k) (want_of p) ≡ true → (z : Size) × ArrayKind z k × TakesWord z p
kind_cell kind.Int p e = absurd (false≢true e)
kind_cell kind.Truth p e = absurd (false≢true e)
kind_cell (kind.Word z) p e = absurd (false≢true e)
kind_cell (kind.Array z) p e = (z, refl, word_goes z p e)

pub cell_goes : (k : Known) (p : Place) → fits_cell (cell_size k) (want_of p) ≡ true → (z : Size) × IsArrayOf z k × TakesWord z p
cell_goes None p e = absurd (false≢true e)
cell_goes (Some d) p e = kind_cell d.kind p e

pub array_sized : (z : Size) (k : Known) → IsArrayOf z k → cell_size k ≡ Some z
array_sized z None h = absurd h
array_sized z (Some d) h = array_kind z d.kind h
  where
    array_kind : (z : Size) (k : Kind) → ArrayKind z k → array_size k ≡ Some z
    array_kind z kind.Int h = absurd h
    array_kind z kind.Truth h = absurd h
    array_kind z (kind.Word y) h = absurd h
    array_kind z (kind.Array y) h = ap (λ (x : Size). Some x) h

pub sized_array : (z : Size) (k : Known) → cell_size k ≡ Some z → IsArrayOf z k
sized_array z None h = none_not z h
sized_array z (Some d) h = array_kind z d.kind h
  where
    array_kind : (z : Size) (k : Kind) → array_size k ≡ Some z → ArrayKind z k
    array_kind z kind.Int h = none_not z h
    array_kind z kind.Truth h = none_not z h
    array_kind z (kind.Word y) h = none_not z h
    array_kind z (kind.Array y) h = same_some y z h

pub word_sized : (z : Size) (k : Known) → IsWordOf z k → known_size k ≡ Some z
word_sized z None h = absurd h
word_sized z (Some d) h = word_kind z d.kind h
  where
    word_kind : (z : Size) (k : Kind) → WordKind z k → word_size k ≡ Some z
    word_kind z kind.Int h = absurd h
    word_kind z kind.Truth h = absurd h
    word_kind z (kind.Word y) h = ap (λ (x : Size). Some x) h
    word_kind z (kind.Array y) h = absurd h

pub sized_word : (z : Size) (k : Known) → known_size k ≡ Some z → IsWordOf z k
sized_word z None h = none_not z h
sized_word z (Some d) h = word_kind z d.kind h
  where
    word_kind : (z : Size) (k : Kind) → word_size k ≡ Some z → WordKind z k
    word_kind z kind.Int h = none_not z h
    word_kind z kind.Truth h = none_not z h
    word_kind z (kind.Word y) h = same_some y z h
    word_kind z (kind.Array y) h = none_not z h

-- ---- one size
pub known_one : (y z : Size) (k : Known) → fits_known k (want.Word z) ≡ true → known_size k ≡ Some y → y ≡ z
known_one y z None h e = absurd (none_not y e)
known_one y z (Some d) h e = kind_one y z d.kind h e
  where
    kind_one : (y z : Size) (k : Kind) → fits_kind k (want.Word z) ≡ true → word_size k ≡ Some y → y ≡ z
    kind_one y z kind.Int h e = absurd (none_not y e)
    kind_one y z kind.Truth h e = absurd (none_not y e)
    kind_one y z (kind.Word x) h e = sym (same_some x y e) ∙ size_same x z h
    kind_one y z (kind.Array x) h e = absurd (none_not y e)

pub cell_one : (y z : Size) (s : Option Size) → fits_cell s (want.Word z) ≡ true → s ≡ Some y → y ≡ z
cell_one y z None h e = absurd (none_not y e)
cell_one y z (Some x) h e = sym (same_some x y e) ∙ size_same x z h

pub known_stated : (y z : Size) (k : Known) → fits_known k (want.Sized z) ≡ true → known_size k ≡ Some y → y ≡ z
known_stated y z None h e = absurd (none_not y e)
known_stated y z (Some d) h e = kind_stated y z d.kind h e
  where
    kind_stated : (y z : Size) (k : Kind) → fits_kind k (want.Sized z) ≡ true → word_size k ≡ Some y → y ≡ z
    kind_stated y z kind.Int h e = absurd (none_not y e)
    kind_stated y z kind.Truth h e = absurd (none_not y e)
    kind_stated y z (kind.Word x) h e = sym (same_some x y e) ∙ size_same x z h
    kind_stated y z (kind.Array x) h e = absurd (none_not y e)

pub cell_stated : (y z : Size) (s : Option Size) → fits_cell s (want.Sized z) ≡ true → s ≡ Some y → y ≡ z
cell_stated y z None h e = absurd (none_not y e)
cell_stated y z (Some x) h e = sym (same_some x y e) ∙ size_same x z h

pub known_whole : (k : Known) → fits_known k want.Int ≡ true → known_size k ≡ None
known_whole None h = refl
known_whole (Some d) h = kind_whole d.kind h
  where
    kind_whole : (k : Kind) → fits_kind k want.Int ≡ true → word_size k ≡ None
    kind_whole kind.Int h = refl
    kind_whole kind.Truth h = refl
    kind_whole (kind.Word x) h = absurd (false≢true h)
    kind_whole (kind.Array x) h = refl

pub known_free : (k : Known) → fits_known k want.Unsized ≡ true → known_size k ≡ None
known_free None h = refl
known_free (Some d) h = kind_free d.kind h
  where
    kind_free : (k : Kind) → fits_kind k want.Unsized ≡ true → word_size k ≡ None
    kind_free kind.Int h = refl
    kind_free kind.Truth h = refl
    kind_free (kind.Word x) h = absurd (false≢true h)
    kind_free (kind.Array x) h = refl

pub known_any : (k : Known) → known_size k ≡ None → fits_known k want.AnyWord ≡ true → ⊥
known_any None e h = false≢true h
known_any (Some d) e h = kind_any d.kind e h
  where
    kind_any : (k : Kind) → word_size k ≡ None → fits_kind k want.AnyWord ≡ true → ⊥
    kind_any kind.Int e h = false≢true h
    kind_any kind.Truth e h = false≢true h
    kind_any (kind.Word x) e h = some_not x e
    kind_any (kind.Array x) e h = false≢true h

pub inline_size : (k : Known) → is_inline_int k ≡ true → known_size k ≡ None
inline_size None h = refl
inline_size (Some d) h = kind_size d.storage d.kind h
  where
    kind_size : (s : Storage) (k : Kind) → inline_int s k ≡ true → word_size k ≡ None
    kind_size s kind.Int h = refl
    kind_size s kind.Truth h = refl
    kind_size storage.Reg (kind.Word x) h = absurd (false≢true h)
    kind_size storage.Stack (kind.Word x) h = absurd (false≢true h)
    kind_size storage.Inline (kind.Word x) h = absurd (false≢true h)
    kind_size s (kind.Array x) h = refl

-- ---- bools
pub known_bool : (k : Known) → fits_known k want.Truth ≡ true → known_truth k ≡ true
known_bool None h = absurd (false≢true h)
known_bool (Some d) h = kind_bool d.kind h
  where
    kind_bool : (k : Kind) → fits_kind k want.Truth ≡ true → is_truth k ≡ true
    kind_bool kind.Int h = absurd (false≢true h)
    kind_bool kind.Truth h = refl
    kind_bool (kind.Word x) h = absurd (false≢true h)
    kind_bool (kind.Array x) h = absurd (false≢true h)

pub bool_size : (k : Known) → known_truth k ≡ true → known_size k ≡ None
bool_size None h = refl
bool_size (Some d) h = kind_size d.kind h
  where
    kind_size : (k : Kind) → is_truth k ≡ true → word_size k ≡ None
    kind_size kind.Int h = refl
    kind_size kind.Truth h = refl
    kind_size (kind.Word x) h = absurd (false≢true h)
    kind_size (kind.Array x) h = refl

pub known_number : (k : Known) (p : Place) → TakesNumber p → fits_known k (want_of p) ≡ true → known_truth k ≡ false
known_number None p g h = refl
known_number (Some d) p g h = kind_number d.kind p g h
  where
    kind_number : (k : Kind) (p : Place) → TakesNumber p → fits_kind k (want_of p) ≡ true → is_truth k ≡ false
    kind_number kind.Int p g h = refl
    kind_number kind.Truth p g h = absurd (number_no_truth p g h)
    kind_number (kind.Word x) p g h = refl
    kind_number (kind.Array x) p g h = refl
