-- Calls of a function that was made.
use Rattle.std.specs.Prelude.{◌≡◌, ℕ, List, length, Some, Result, Ok, Err, slice_get}
use Rattle.jz_tree.specs.Failure.{Failure}
use Rattle.jz_tree.specs.Failure.TheVariants as failure
use Rattle.jz_tree.specs.declared.program.Fun.{Fun}
use Rattle.jz_tree.specs.declared.program.Program.{Program}
use Rattle.jz_items.specs.declared.item.Item.{Item}
use Rattle.jz_listing.specs.declared.compiled.Compiled.{Compiled}
use Rattle.jasminc_calls.specs.declared.fitting.Unfit.{Unfit}
use Rattle.jasminc_calls.specs.declared.fitting.Unfit.TheVariants as misfit
use Rattle.jasminc_calls.specs.Calls.{AllHold}
use Rattle.jasminc_calls.specs.Fitting.{IsUnfit}
use Rattle.jasminc_runs.specs.declared.telling.Ran.{Ran}
use Rattle.jasminc_called.specs.declared.making.MadeFor.{MadeFor}
use Rattle.jasminc_called.specs.declared.refused.Refused.{Refused}
use Rattle.jasminc_called.specs.declared.refused.Refused.TheVariants.{Items, Unmet}
use Rattle.jasminc_called.specs.Making.{IsCompiledAs}

-- ---- refusals
-- items on which a function is not called, as a refusal
abbrev pub refused_by : Unfit → Refused
refused_by misfit.Items = Items
refused_by (misfit.Unmet pre) = Unmet pre

abbrev pub as_refusal : Result Ran (Failure Unfit) → Result Ran (Failure Refused)
as_refusal (Ok ran) = Ok ran
as_refusal (Err (failure.Refused misfit.Items)) = Err (failure.Refused Items)
as_refusal (Err (failure.Refused (misfit.Unmet pre))) = Err (failure.Refused (Unmet pre))
as_refusal (Err failure.OutOfMemory) = Err failure.OutOfMemory

-- ---- answers
-- the items suit the function, and this is told of what it is compiled to
pub record IsToldOf (Tells : Program → Fun → Compiled → Ran → Type 0) (fun : List ℕ)
    (items : List Item) (m : MadeFor) (ran : Ran) : Type 0 where
  pub compiled : Compiled
  pub is_compiled : IsCompiledAs m.typed.program fun m.functions compiled
  pub many : length items ≡ length is_compiled.function.params
  pub held : AllHold is_compiled.function items
  pub tells : Tells m.typed.program is_compiled.function compiled ran

-- the items do not suit the function at its place
pub record IsUnfitFor (items : List Item) (m : MadeFor) (r : Refused) : Type 0 where
  pub function : Fun
  pub there : slice_get m.typed.program.funs m.place ≡ Some function
  pub why : Unfit
  pub is : r ≡ refused_by why
  pub unfit : IsUnfit function items why

abbrev pub CallAnswers :
    (Program → Fun → Compiled → Ran → Type 0) → List ℕ → List Item → MadeFor
    → Result Ran Refused → Type 0
CallAnswers Tells fun items m (Ok ran) = IsToldOf Tells fun items m ran
CallAnswers Tells fun items m (Err r) = IsUnfitFor items m r
