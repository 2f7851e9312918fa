-- Left sides whose value has its type elsewhere.
use Rattle.std.proofs.Common.{◌≡◌, Bool, true, false, not, ◌||◌, [], ◌++◌, inl, inr, Option, Some, None, refl, sym, ap, ap₂, ◌∙◌, subst}
use Rattle.std.proofs.lemmas.Bool.{false≢true, and_parts, and_from}
use Rattle.jz_tree.specs.Size.{Size}
use Rattle.jz_tree.specs.Size.TheVariants as sizes
use Rattle.jz_tree.specs.declared.expr.Access.{Access}
use Rattle.jz_tree.specs.declared.expr.Var.{Var}
use Rattle.jz_tree.specs.declared.expr.Expr.TheViews.{out-Access, out-Var}
use Rattle.jz_tree.specs.declared.stmt.Lval.{Lval}
use Rattle.jz_tree.specs.declared.stmt.Lval.TheVariants as lval
use Rattle.jz_type_names.specs.Order.{unless}
use Rattle.jz_type_names.specs.Kinds.{known_of, is_inline_int}
use Rattle.jz_type_sizes.specs.declared.wants.Form.{Form}
use Rattle.jz_type_sizes.specs.declared.wants.Want.{Want}
use Rattle.jz_type_sizes.specs.declared.wants.Want.TheVariants as want
use Rattle.jz_type_sizes.specs.Wants.{index_want, fits_access, fits_cell, known_size, known_truth, cell_size, own_size, form_of_size}
use Rattle.jz_type_sizes.specs.Typings.{typing}
use Rattle.jz_type_sizes.specs.Sides.{left_form, left_wrong, set_want, within, any_size, takes, has_size}
use Rattle.jz_judgement.specs.Places.{Place, integer, truth, word, index, unsized}
use Rattle.jz_judgement.specs.HasType.{value, HasType}
use Rattle.jz_judgement.specs.Lefts as lefts
use Rattle.jz_judgement.specs.Lefts.{IsBool, Wants, Leaves, Holds, IsSound, IsFlag}
use Rattle.jz_judgement.proofs.Nothing.{none_not, size_same, same_self}
use Rattle.jz_type_names.proofs.Empty.{one_not, both}
use Rattle.jz_judgement.proofs.Variables.{array_sized, sized_array, word_sized}
use Rattle.jz_judgement.proofs.Expressions.{judged_of}
use Rattle.jz_judgement.proofs.LeftKinds as sorts
use Rattle.jz_judgement.proofs.LeftKinds.{sort}
use Rattle.jz_judgement.proofs.LeftSides.{wanted, leaving, Chosen, it_wants, it_leaves, chosen}

-- ---- forms
-- a word, as far as it is declared
abbrev is_wordy : Form → Bool
is_wordy d = not (d.truth || d.inline)

not_wordy : (b i : Bool) → i ≡ true → not (b || i) ≡ true → ⊥
not_wordy true i e h = false≢true h
not_wordy false i e h = false≢true (ap not (sym e) ∙ h)

not_bool : (b i : Bool) → b ≡ true → not (b || i) ≡ true → ⊥
not_bool b i e h = false≢true (ap (λ c. not (c || i)) (sym e) ∙ h)

wordy : (b i : Bool) → b ≡ false → i ≡ false → not (b || i) ≡ true
wordy b i p q = ap₂ (λ c d. not (c || d)) p q

pub wants_size : (d : Lval) (z : Size) → Wants d (word z) → (left_form d).size ≡ Some z
wants_size d z (lefts.variable {v = v} w) = word_sized z (known_of v) w
wants_size d z (lefts.cell {v = v} a h) = array_sized z (known_of v) a
wants_size d z (lefts.access e h) = e

pub leaves_size : (d : Lval) (p : Place) → Leaves d p → (left_form d).size ≡ None
leaves_size d p lefts.nothing = refl
leaves_size d p (lefts.array {v = v} a) = (sorts.whole (known_of v) a).size
leaves_size d p (lefts.number {v = v} n i g) = (sorts.other (known_of v) n).size
leaves_size d p (lefts.access e h) = e

wants_wordy : (d : Lval) (z : Size) → Wants d (word z) → is_wordy (left_form d) ≡ true
wants_wordy d z (lefts.variable {v = v} w) = wordy (known_truth (known_of v)) (is_inline_int (known_of v)) (sorts.word z (known_of v) w).bool (sorts.word z (known_of v) w).known
wants_wordy d z (lefts.cell a h) = refl
wants_wordy d z (lefts.access e h) = refl

leaves_wordy : (d : Lval) (p : Place) → Leaves d p → is_wordy (left_form d) ≡ true
leaves_wordy d p lefts.nothing = refl
leaves_wordy d p (lefts.array {v = v} a) = wordy (known_truth (known_of v)) (is_inline_int (known_of v)) (sorts.whole (known_of v) a).bool (sorts.whole (known_of v) a).known
leaves_wordy d p (lefts.number {v = v} n i g) = wordy (known_truth (known_of v)) (is_inline_int (known_of v)) (sorts.other (known_of v) n).bool i
leaves_wordy d p (lefts.access e h) = refl

-- what wants a word
pub data Worded (d : Lval) (p : Place) : Type 0 where
  of_size : (z : Size) → p ≡ word z → Wants d (word z) → Worded d p

wants_word : (d : Lval) (p : Place) → Wants d p → is_wordy (left_form d) ≡ true → Worded d p
wants_word d p (lefts.number {v = v} i) h = absurd (not_wordy (known_truth (known_of v)) (is_inline_int (known_of v)) i h)
wants_word d p (lefts.bool {v = v} b) h = absurd (not_bool (known_truth (known_of v)) (is_inline_int (known_of v)) (sorts.truthful (known_of v) b).bool h)
wants_word d p (lefts.variable {z = z} w) h = of_size z refl (lefts.variable w)
wants_word d p (lefts.cell {z = z} a g) h = of_size z refl (lefts.cell a g)
wants_word d p (lefts.access {z = z} e g) h = of_size z refl (lefts.access e g)

skip_wordy : (d : Lval) (s : Option Size) (w : Want) → w ≡ own_size s → takes w d ≡ true → is_wordy (left_form d) ≡ true
skip_wordy (lval.Skip at) s w e h = refl
skip_wordy (lval.Var v) None w e h = (and_parts (is_wordy (left_form (lval.Var v))) true (ap (λ u. takes u (lval.Var v)) (sym e) ∙ h)).0
skip_wordy (lval.Var v) (Some z) w e h = (and_parts (is_wordy (left_form (lval.Var v))) (has_size (Some z) (left_form (lval.Var v)).size) (ap (λ u. takes u (lval.Var v)) (sym e) ∙ h)).0
skip_wordy (lval.Cell v i) s w e h = refl
skip_wordy (lval.Store a) s w e h = refl

takes_size : (d : Lval) (z y : Size) → takes (want.Word z) d ≡ true → (left_form d).size ≡ Some y → y ≡ z
takes_size (lval.Skip at) z y h e = absurd (none_not y e)
takes_size (lval.Var v) z y h e = sym (size_same z y (ap (λ s. has_size (Some z) s) (sym e) ∙ (and_parts (is_wordy (left_form (lval.Var v))) (has_size (Some z) (known_size (known_of v))) h).1))
takes_size (lval.Cell v i) z y h e = sym (size_same z y (ap (λ s. has_size (Some z) s) (sym e) ∙ h))
takes_size (lval.Store a) z y h e = sym (size_same z y (ap (λ s. has_size (Some z) s) (sym e) ∙ h))

takes_sized : (d : Lval) (z : Size) → is_wordy (left_form d) ≡ true → has_size (Some z) (left_form d).size ≡ true → takes (want.Word z) d ≡ true
takes_sized (lval.Skip at) z b h = refl
takes_sized (lval.Var v) z b h = and_from (is_wordy (left_form (lval.Var v))) (has_size (Some z) (known_size (known_of v))) b h
takes_sized (lval.Cell v i) z b h = h
takes_sized (lval.Store a) z b h = h

takes_own : (d : Lval) → is_wordy (left_form d) ≡ true → takes want.Unsized d ≡ true
takes_own (lval.Skip at) b = refl
takes_own (lval.Var v) b = and_from (is_wordy (left_form (lval.Var v))) true b refl
takes_own (lval.Cell v i) b = refl
takes_own (lval.Store a) b = refl

-- ---- words of a size
within_wants : (d : Lval) (p : Place) (s : Option Size) → Wants d p → within s d ≡ []
within_wants d p s w = let f = wanted d p (form_of_size s) w in ap (λ u. left_wrong d u) f.0 ∙ f.1

pub holds_word : (z : Size) (d : Lval) → within (Some z) d ≡ [] → takes (want.Word z) d ≡ true → Holds (word z) d
holds_word z d h t = at_choice (chosen d (form_of_size (Some z)) h)
  where
    at_word : (p : Place) → Worded d p → Holds (word z) d
    at_word p (of_size y e w) = inl (subst (λ u. Wants d (word u)) (takes_size d z y t (wants_size d y w)) w)

    at_choice : Chosen d (form_of_size (Some z)) → Holds (word z) d
    at_choice (it_wants p w e) = at_word p (wants_word d p w (skip_wordy d (Some z) (want.Word z) refl t))
    at_choice (it_leaves e l) = inr (l (word z) refl)

pub word_holds : (z : Size) (d : Lval) → Holds (word z) d → (within (Some z) d ≡ []) × (takes (want.Word z) d ≡ true)
word_holds z d (inl w) = (within_wants d (word z) (Some z) w, takes_sized d z (wants_wordy d z w) (ap (λ s. has_size (Some z) s) (wants_size d z w) ∙ same_self z))
word_holds z d (inr l) =
    let f = leaving d (word z) (form_of_size (Some z)) l in
    (ap (λ u. left_wrong d u) f.0 ∙ f.1, takes_sized d z (leaves_wordy d (word z) l) (ap (λ s. has_size (Some z) s) (leaves_size d (word z) l)))

pub holds_size : (z y : Size) (d : Lval) → Holds (word z) d → (left_form d).size ≡ Some y → y ≡ z
holds_size z y d h e = takes_size d z y (word_holds z d h).1 e

pub holds_wants : (z y : Size) (d : Lval) → Holds (word z) d → (left_form d).size ≡ Some y → Wants d (word z)
holds_wants z y d (inl w) e = w
holds_wants z y d (inr l) e = absurd (none_not y (sym (leaves_size d (word z) l) ∙ e))

-- ---- no size
pub holds_none : (d : Lval) → (left_form d).size ≡ None → within None d ≡ [] → takes want.Unsized d ≡ true → Leaves d unsized
holds_none d n h t = at_choice (chosen d (form_of_size None) h)
  where
    at_word : (p : Place) → Worded d p → Leaves d unsized
    at_word p (of_size y e w) = absurd (none_not y (sym n ∙ wants_size d y w))

    at_choice : Chosen d (form_of_size None) → Leaves d unsized
    at_choice (it_wants p w e) = at_word p (wants_word d p w (skip_wordy d None want.Unsized refl t))
    at_choice (it_leaves e l) = l unsized refl

pub none_holds : (d : Lval) → Leaves d unsized → (within None d ≡ []) × (takes want.Unsized d ≡ true)
none_holds d l = let f = leaving d unsized (form_of_size None) l in (ap (λ u. left_wrong d u) f.0 ∙ f.1, takes_own d (leaves_wordy d unsized l))

-- ---- whatever it is set to
pub sound : (z : Size) (d : Lval) → within (Some z) d ≡ [] → IsSound d
sound z (lval.Skip at) h = lefts.nothing
sound z (lval.Var v) h = lefts.variable
sound z (lval.Cell v i) h = at_size (cell_size (known_of v)) refl h
  where
    at_size : (s : Option Size) → cell_size (known_of v) ≡ s → unless (fits_cell s (set_want (form_of_size s) (form_of_size (Some z)))) (out-Var v).span ++ (typing i).wrong index_want ≡ [] → IsSound (lval.Cell v i)
    at_size None e h = absurd (one_not (out-Var v).span ((typing i).wrong index_want) h)
    at_size (Some y) e h = lefts.cell y (sized_array y (known_of v) e) ((judged_of i).agrees.holds index (both (unless (fits_cell (Some y) (want.Word y)) (out-Var v).span) ((typing i).wrong index_want) h).1)
sound z (lval.Store a) h =
    lefts.access ((judged_of (out-Access a).at).agrees.holds index (both (unless (fits_access a.size (set_want (form_of_size a.size) (form_of_size (Some z)))) a.span) ((typing (out-Access a).at).wrong index_want) h).1)

sound_variable : (z : Size) (v : Var) → sorts.Sort (known_of v) → within (Some z) (lval.Var v) ≡ []
sound_variable z v (sorts.an_inline i) = within_wants (lval.Var v) integer (Some z) (lefts.number i)
sound_variable z v (sorts.a_bool b) = within_wants (lval.Var v) truth (Some z) (lefts.bool b)
sound_variable z v (sorts.a_word y w) = within_wants (lval.Var v) (word y) (Some z) (lefts.variable w)
sound_variable z v (sorts.an_array a) = (word_holds z (lval.Var v) (inr (lefts.array a))).0
sound_variable z v (sorts.a_number n i) = (word_holds z (lval.Var v) (inr (lefts.number n i tt))).0

sound_access : (z : Size) (a : Access) (s : Option Size) → a.size ≡ s → HasType (value (out-Access a).at) index → within (Some z) (lval.Store a) ≡ []
sound_access z a (Some y) e h = within_wants (lval.Store a) (word y) (Some z) (lefts.access e h)
sound_access z a None e h = (word_holds z (lval.Store a) (inr (lefts.access e h))).0

pub sound_so : (z : Size) (d : Lval) → IsSound d → within (Some z) d ≡ []
sound_so z d lefts.nothing = refl
sound_so z d (lefts.variable {v = v}) = sound_variable z v (sort (known_of v))
sound_so z d (lefts.cell {v = v} {i = i} y a h) = within_wants (lval.Cell v i) (word y) (Some z) (lefts.cell a h)
sound_so z d (lefts.access {a = a} h) = sound_access z a a.size refl h

-- ---- flags
pub flag : (d : Lval) → takes want.Truth d ≡ true → IsFlag d
flag (lval.Skip at) h = lefts.nothing
flag (lval.Var v) h = lefts.variable (sorts.is_bool (known_of v) h)
flag (lval.Cell v i) h = absurd (false≢true h)
flag (lval.Store a) h = absurd (false≢true h)

pub flag_so : (d : Lval) → IsFlag d → (within any_size d ≡ []) × (takes want.Truth d ≡ true)
flag_so d lefts.nothing = (refl, refl)
flag_so d (lefts.variable {v = v} b) = (within_wants (lval.Var v) truth any_size (lefts.bool b), (sorts.truthful (known_of v) b).bool)

-- ---- a word of some size
pub holds_some : (d : Lval) → within any_size d ≡ [] → takes index_want d ≡ true → (y : Size) × Holds (word y) d
holds_some d h t = at_choice (chosen d (form_of_size any_size) h)
  where
    at_word : (p : Place) → Worded d p → (y : Size) × Holds (word y) d
    at_word p (of_size y e w) = (y, inl w)

    at_choice : Chosen d (form_of_size any_size) → (y : Size) × Holds (word y) d
    at_choice (it_wants p w e) = at_word p (wants_word d p w (index_wordy d t))
      where
        index_wordy : (d : Lval) → takes index_want d ≡ true → is_wordy (left_form d) ≡ true
        index_wordy (lval.Skip at) h = refl
        index_wordy (lval.Var v) h = (and_parts (is_wordy (left_form (lval.Var v))) true h).0
        index_wordy (lval.Cell v i) h = refl
        index_wordy (lval.Store a) h = refl
    at_choice (it_leaves e l) = (sizes.S8, inr (l (word sizes.S8) refl))

takes_index : (d : Lval) → is_wordy (left_form d) ≡ true → takes index_want d ≡ true
takes_index (lval.Skip at) b = refl
takes_index (lval.Var v) b = and_from (is_wordy (left_form (lval.Var v))) true b refl
takes_index (lval.Cell v i) b = refl
takes_index (lval.Store a) b = refl

pub some_holds : (d : Lval) (y : Size) → Holds (word y) d → (within any_size d ≡ []) × (takes index_want d ≡ true)
some_holds d y h = (sound_so sizes.S8 d (sound y d (word_holds y d h).0), takes_index d (wordy_of h))
  where
    wordy_of : Holds (word y) d → is_wordy (left_form d) ≡ true
    wordy_of (inl w) = wants_wordy d y w
    wordy_of (inr l) = leaves_wordy d (word y) l
