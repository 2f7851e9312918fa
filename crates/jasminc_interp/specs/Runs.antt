-- Runs of the functions of a program on items.
use Rattle.std.specs.Prelude.{◌≡◌, ℕ, List, Some}
use Rattle.std.specs.FinMap.{get}
use Rattle.jz_tree.specs.Memory.{Memory}
use Rattle.jz_tree.specs.Failure.{Failure}
use Rattle.jz_tree.specs.Failure.TheVariants as failure
use Rattle.jz_tree.specs.declared.program.Fun.{Fun}
use Rattle.jz_tree.specs.declared.program.Program.{Program}
use Rattle.jz_preconditions.specs.Meeting.{MeetsPreconditions}
use Rattle.jz_items.specs.declared.item.Item.{Item}
use Rattle.jz_items.specs.Items.{words_of}
use Rattle.jz_inputs.specs.Held.{byte_at}
use Rattle.jz_meaning.specs.Runs.{FunOutcome, IsRun}
use Rattle.jasminc_calls.specs.declared.fitting.Unfit.{Unfit}
use Rattle.jasminc_calls.specs.declared.fitting.Unfit.TheVariants as unfit
use Rattle.jasminc_calls.specs.Calls.{argument_values, argument_words}
use Rattle.jasminc_interp.specs.declared.refused.Refused.{Refused}
use Rattle.jasminc_interp.specs.declared.refused.Refused.TheVariants as refused
use Rattle.jasminc_interp.specs.declared.telling.Ran.{Ran}
use Rattle.jasminc_interp.specs.Telling.{Tells}

-- ---- refusals
-- items on which a function is not run, as a refusal
abbrev pub refusal_of : Failure Unfit → Failure Refused
refusal_of (failure.Refused unfit.Items) = failure.Refused refused.Items
refusal_of (failure.Refused (unfit.Unmet pre)) = failure.Refused (refused.Unmet pre)
refusal_of failure.OutOfMemory = failure.OutOfMemory

-- ---- runs
-- What is told of the run of a function on items, with at most so many turns: the argument words
-- and a memory meet the preconditions, and each byte of that memory is one of the items'.
pub record RunsOn (p : Program) (f : Fun) (items : List Item) (fuel : ℕ) (ran : Ran) : Type 0 where
  pub memory : Memory
  pub meets : MeetsPreconditions f (argument_words f items) memory
  pub given : (q b : ℕ) → get memory q ≡ Some b → byte_at items q ≡ Some b
  pub out : FunOutcome
  pub run : IsRun p f (argument_values f.params (words_of items)) memory fuel out
  pub told : Tells f (argument_words f items) fuel out ran
