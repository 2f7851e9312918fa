-- What a judgement and what typing finds have to do with one another.
use Rattle.std.proofs.Common.{◌≡◌, Bool, true, false, [], Some, None}
use Rattle.std.specs.Prelude.{is_some}
use Rattle.jz_tree.specs.Size.{Size}
use Rattle.jz_type_sizes.specs.declared.wants.Want.TheVariants as want
use Rattle.jz_type_sizes.specs.Typings.{Typing}
use Rattle.jz_judgement.specs.Places.{Place, TakesNumber}
use Rattle.jz_judgement.specs.Agreement.{want_of}

-- nothing is wrong in that place
abbrev pub IsRight : Typing → Place → Type 0
IsRight t p = t.wrong (want_of p) ≡ []

-- H: it has this type; S: it says this size; known: it is known when the text is compiled
pub record Agrees (t : Typing) (H : Place → Type 0) (S : Size → Type 0) (known : Bool) : Type 0 where
  pub holds : (p : Place) → IsRight t p → H p
  pub right : (p : Place) → H p → IsRight t p
  pub says : (z : Size) → t.form.size ≡ Some z → S z
  pub said : (z : Size) → S z → is_some t.form.size ≡ true
  pub inline : t.form.inline ≡ known
  -- where a word of a size is wanted it says no other size, and where no word is wanted none
  pub one : (y z : Size) → t.wrong (want.Word z) ≡ [] → t.form.size ≡ Some y → y ≡ z
  pub stated : (y z : Size) → t.wrong (want.Sized z) ≡ [] → t.form.size ≡ Some y → y ≡ z
  pub whole : t.wrong want.Int ≡ [] → t.form.size ≡ None
  pub free : t.wrong want.Unsized ≡ [] → t.form.size ≡ None
  -- what is known is no word
  pub no_word : t.form.inline ≡ true → t.wrong want.AnyWord ≡ [] → ⊥
  pub no_size : t.form.inline ≡ true → t.form.size ≡ None

-- bools are told from all else
pub record IsApart (t : Typing) : Type 0 where
  pub bool : t.wrong want.Truth ≡ [] → t.form.truth ≡ true
  pub size : t.form.truth ≡ true → t.form.size ≡ None
  pub number : (p : Place) → TakesNumber p → t.wrong (want_of p) ≡ [] → t.form.truth ≡ false

-- a word where any word is wanted says its size
abbrev pub SaysItself : Typing → Type 0
SaysItself t = t.form.size ≡ None → t.wrong want.AnyWord ≡ [] → ⊥
