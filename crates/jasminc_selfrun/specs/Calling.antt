-- Programs from numbers that are compiled and run, and what is told of that.
use Rattle.std.specs.Prelude.{◌≡◌, ℕ, List, [], ◌∷◌, length, codes, Result, Ok, Err}
use Rattle.jz_tree.specs.declared.program.Fun.{Fun}
use Rattle.jz_tree.specs.declared.program.Program.{Program}
use Rattle.jz_first_limit.specs.FirstLimits.{expanded_count}
use Rattle.jz_items.specs.declared.item.Item.{Item}
use Rattle.jz_items.specs.declared.item.Item.TheVariants.{Number}
use Rattle.jz_items.specs.Items.{words_of}
use Rattle.jz_preconditions.specs.Meeting.{MeetsPreconditions}
use Rattle.jz_listing.specs.declared.compiled.Compiled.{Compiled}
use Rattle.jz_correct.specs.Starts.{IsStart}
use Rattle.jasminc_calls.specs.declared.fitting.Unfit.{Unfit}
use Rattle.jasminc_calls.specs.Calls.{argument_words, AllHold}
use Rattle.jasminc_calls.specs.Fitting.{IsUnfit}
use Rattle.jasminc_steps.specs.Starting.{code_base, return_slot, exec_start}
use Rattle.jasminc_runs.specs.declared.telling.Ran.{Ran}
use Rattle.jasminc_selfrun.specs.declared.summing.Origin.{Origin}
use Rattle.jasminc_selfrun.specs.Running.{RunsTo}

-- the function that is run, and its items: 2, 3, 4 and 0
abbrev pub main_name : List ℕ
main_name = codes "main"

abbrev pub main_items : List Item
main_items = Number 2 ∷ Number 3 ∷ Number 4 ∷ Number 0 ∷ []

-- What is summed up of the run of a compiled function on items, with at most so many steps: there
-- are as many items as parameters, and the preconditions hold of them; the run begins where correct
-- compilation says that a run may begin, on the low bits of the items' words and on the bytes that
-- they give to the regions.
pub record SumsUpOn (o : Origin) (f : Fun) (c : Compiled) (items : List Item) (fuel : ℕ) (ran : Ran)
    : Type 0 where
  pub many : length items ≡ length f.params
  pub held : AllHold f items
  pub runs : RunsTo o c f (argument_words f items) items fuel ran
  pub meets : MeetsPreconditions f (argument_words f items) runs.is_start.input
  pub starts :
      IsStart c (argument_words f items) runs.is_start.input return_slot code_base
      (exec_start (words_of items) runs.memory)

abbrev pub SumAnswers : Origin → Fun → Compiled → List Item → ℕ → Result Ran Unfit → Type 0
SumAnswers o f c items fuel (Ok ran) = SumsUpOn o f c items fuel ran
SumAnswers o f c items fuel (Err u) = IsUnfit f items u

-- what a function of a program is told to be made of, and how many statements it has
abbrev pub origin_of : ℕ → ℕ → Program → Fun → Origin
origin_of seed size p f = record { seed = seed; size = size; statements = expanded_count p f }

-- what is told of a function of the program of a seed and a size
abbrev pub SumsUpProgram :
    ℕ → ℕ → List Item → ℕ → Program → Fun → Compiled → Ran → Type 0
SumsUpProgram seed size items fuel p f c ran =
    SumsUpOn (origin_of seed size p f) f c items fuel ran
