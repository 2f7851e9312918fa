-- Runs of compiled export functions on items, and when there is none.
use Rattle.std.specs.Prelude.{◌≡◌, ◌≤◌, ℕ, List, length, Result, Ok, Err}
use Rattle.jz_tree.specs.declared.program.Fun.{Fun}
use Rattle.jz_tree.specs.declared.program.Program.{Program}
use Rattle.jz_items.specs.declared.item.Item.{Item}
use Rattle.jz_items.specs.Items.{words_of}
use Rattle.jz_preconditions.specs.Meeting.{MeetsPreconditions}
use Rattle.jz_listing.specs.declared.compiled.Compiled.{Compiled}
use Rattle.jz_correct.specs.Starts.{IsStart}
use Rattle.jz_compiled.specs.Correct.{IsCompilation}
use Rattle.jasminc_calls.specs.declared.fitting.Unfit.{Unfit}
use Rattle.jasminc_calls.specs.Calls.{IsTypedExport, argument_words, AllHold}
use Rattle.jasminc_calls.specs.Fitting.{IsUnfit}
use Rattle.jasminc_steps.specs.Starting.{code_base, return_slot, exec_start}
use Rattle.jasminc_runs.specs.declared.telling.Ran.{Ran}
use Rattle.jasminc_starts.specs.Memories.{most_frame}
use Rattle.jasminc_runs.specs.Running.{RunsTo}

-- an export function of a typed program is compiled correctly, and its frame fits below the return
-- slot
pub record IsRunnable (p : Program) (f : Fun) (c : Compiled) : Type 0 where
  pub is_export : IsTypedExport p f
  pub compilation : IsCompilation p f c
  pub small : c.frame ≤ most_frame

-- What is told of the run of a compiled function on items, with at most so many steps: there are as
-- many items as parameters, and the preconditions hold of them; the run begins where correct
-- compilation says that a run may begin, on the low bits of the items' words and on the bytes that
-- they give to the regions.
pub record RunsOn (f : Fun) (c : Compiled) (items : List Item) (fuel : ℕ) (ran : Ran) : Type 0 where
  pub many : length items ≡ length f.params
  pub held : AllHold f items
  pub runs : RunsTo c f (argument_words f items) items fuel ran
  pub meets : MeetsPreconditions f (argument_words f items) runs.is_start.input
  pub starts :
      IsStart c (argument_words f items) runs.is_start.input return_slot code_base
      (exec_start (words_of items) runs.memory)

abbrev pub ExecAnswers : Fun → Compiled → List Item → ℕ → Result Ran Unfit → Type 0
ExecAnswers f c items fuel (Ok ran) = RunsOn f c items fuel ran
ExecAnswers f c items fuel (Err u) = IsUnfit f items u
