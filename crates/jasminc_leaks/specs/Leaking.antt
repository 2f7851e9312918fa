-- What compiled functions show on items, by their transformers.
use Rattle.std.specs.Prelude.{◌≡◌, ℕ, List, ◌++◌, length, map, codes, Some, Result, Ok, Err, slice_get, ⊤}
use Rattle.std.specs.List.{concat}
use Rattle.std.specs.FinMap.{get}
use Rattle.jz_words.specs.Memory.{Memory}
use Rattle.jz_tree.specs.declared.program.Fun.{Fun}
use Rattle.jz_tree.specs.declared.program.Program.{Program}
use Rattle.jz_items.specs.declared.item.Item.{Item}
use Rattle.jz_items.specs.Items.{words_of}
use Rattle.jz_inputs.specs.Held.{byte_at}
use Rattle.jz_preconditions.specs.Meeting.{MeetsPreconditions}
use Rattle.jz_leak.specs.declared.event.Event.{Event}
use Rattle.jz_leak.specs.declared.transformer.Transformer.{Transformer}
use Rattle.jz_leak.specs.Applying.{apply_of, Fits}
use Rattle.jz_runs.specs.Rules.{End, Cut, Stuck}
use Rattle.jz_meaning.specs.Runs.{FunOutcome, IsRun}
use Rattle.jz_listing.specs.declared.compiled.Compiled.{Compiled}
use Rattle.jasminc_calls.specs.declared.fitting.Unfit.{Unfit}
use Rattle.jasminc_calls.specs.Calls.{argument_values, argument_words, AllHold}
use Rattle.jasminc_calls.specs.Fitting.{IsUnfit}
use Rattle.jasminc_steps.specs.Starting.{return_slot}
use Rattle.jasminc_steps.specs.Telling.{event_line, cut_text}
use Rattle.jasminc_runs.specs.declared.telling.Ran.{Ran}
use Rattle.jasminc_runs.specs.declared.telling.Ran.TheVariants as ran
use Rattle.jasminc_runs.specs.Calling.{IsRunnable}

-- ---- texts
-- the events of a run that ended
abbrev pub end_text : List Event → List ℕ
end_text events = concat (map event_line events) ++ codes "end\n"

-- what a run of the source with so many turns leaked fits the transformer
abbrev pub FitsOutcome : Transformer → FunOutcome → Type 0
FitsOutcome tr (End r k l) = Fits tr l
FitsOutcome tr (Cut l) = Fits tr l
FitsOutcome tr (Stuck w) = ⊤

-- the events that the transformer gives of it, from the stack pointer at entry of `exec`; a source
-- that is compiled is never stuck
abbrev pub Tells : Transformer → ℕ → FunOutcome → Ran → Type 0
Tells tr n (End r k l) (ran.Ended text) = text ≡ end_text (apply_of tr l return_slot)
Tells tr n (Cut l) (ran.Cut text) = text ≡ cut_text (apply_of tr l return_slot) n
Tells tr n _ _ = ⊥

-- ---- runs
-- the function at that place is a compiled export function
pub record IsRunnableAt (p : Program) (place : ℕ) (c : Compiled) : Type 0 where
  pub function : Fun
  pub there : slice_get p.funs place ≡ Some function
  pub runnable : IsRunnable p function c

-- What is told of a compiled function on items, with at most so many turns: there are as many items
-- as parameters, and the preconditions hold of them; the source runs on the low bits of the items'
-- words and on a memory of exactly the bytes that they give to the regions.
pub record LeaksOn (p : Program) (f : Fun) (c : Compiled) (items : List Item) (fuel : ℕ) (ran : Ran)
    : Type 0 where
  pub many : length items ≡ length f.params
  pub held : AllHold f items
  pub memory : Memory
  pub meets : MeetsPreconditions f (argument_words f items) memory
  pub given : (q b : ℕ) → get memory q ≡ Some b → byte_at items q ≡ Some b
  pub out : FunOutcome
  pub run : IsRun p f (argument_values f.params (words_of items)) memory fuel out
  pub told : Tells c.tr fuel out ran

-- ---- the function at a place
pub record LeaksAt (p : Program) (place : ℕ) (c : Compiled) (items : List Item) (fuel : ℕ)
    (ran : Ran) : Type 0 where
  pub function : Fun
  pub there : slice_get p.funs place ≡ Some function
  pub leaks : LeaksOn p function c items fuel ran

pub record IsUnfitAt (p : Program) (place : ℕ) (items : List Item) (u : Unfit) : Type 0 where
  pub function : Fun
  pub there : slice_get p.funs place ≡ Some function
  pub unfit : IsUnfit function items u

abbrev pub LeakAnswers : Program → ℕ → Compiled → List Item → ℕ → Result Ran Unfit → Type 0
LeakAnswers p place c items fuel (Ok ran) = LeaksAt p place c items fuel ran
LeakAnswers p place c items fuel (Err u) = IsUnfitAt p place items u
