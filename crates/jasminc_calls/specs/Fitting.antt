-- Whether a function is run on items, and what it is then run on.
use Rattle.std.specs.Prelude.{◌≡◌, List, length, Result, Ok, Err}
use Rattle.jz_tree.specs.declared.program.Fun.{Fun}
use Rattle.jz_preconditions.specs.Stating.{preconditions_of}
use Rattle.jz_items.specs.declared.item.Item.{Item}
use Rattle.jz_items.specs.Items.{words_of}
use Rattle.jz_interp.specs.Outcomes.{values_of}
use Rattle.jasminc_calls.specs.declared.calls.Called.{Called}
use Rattle.jasminc_calls.specs.declared.fitting.Unfit.{Unfit}
use Rattle.jasminc_calls.specs.declared.fitting.Unfit.TheVariants.{Items, Unmet}
use Rattle.jasminc_calls.specs.Calls.{argument_values, argument_words, AllHold, BreaksFirst}

-- what a function is run on, by items
pub record IsCallOf (f : Fun) (items : List Item) (c : Called) : Type 0 where
  pub words : values_of c.words ≡ argument_values f.params (words_of items)
  pub bits : c.bits ≡ argument_words f items
  pub pres : c.pres ≡ preconditions_of f

-- there are as many items as parameters, the preconditions hold of them, and this is what the
-- function is run on
pub record Suits (f : Fun) (items : List Item) (c : Called) : Type 0 where
  pub call : IsCallOf f items c
  pub many : length items ≡ length f.params
  pub held : AllHold f items

-- another number of items than of parameters; or this is the first precondition that does not hold
abbrev pub IsUnfit : Fun → List Item → Unfit → Type 0
IsUnfit f items Items = length items ≡ length f.params → ⊥
IsUnfit f items (Unmet pre) = (length items ≡ length f.params) × BreaksFirst f items pre

abbrev pub CallAnswers : Fun → List Item → Result Called Unfit → Type 0
CallAnswers f items (Ok c) = Suits f items c
CallAnswers f items (Err u) = IsUnfit f items u
