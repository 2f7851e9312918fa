-- Runs of compiled functions that are summed up.
use Rattle.std.specs.Prelude.{◌≡◌, ◌≤◌, ℕ, List}
use Rattle.jz_words.specs.Memory.{Memory}
use Rattle.jz_tree.specs.declared.program.Fun.{Fun}
use Rattle.jz_items.specs.declared.item.Item.{Item}
use Rattle.jz_items.specs.Items.{words_of}
use Rattle.jz_listing.specs.declared.compiled.Compiled.{Compiled}
use Rattle.jz_correct.specs.Ends.{EndsAfter}
use Rattle.x64_machine.specs.Steps.{Config, steps_of}
use Rattle.jasminc_lines.specs.Lines.{cut_line}
use Rattle.jasminc_steps.specs.Starting.{code_base, exec_start}
use Rattle.jasminc_steps.specs.Stepping.{RunsStill}
use Rattle.jasminc_starts.specs.Memories.{IsStartMemory}
use Rattle.jasminc_runs.specs.declared.telling.Ran.{Ran}
use Rattle.jasminc_runs.specs.declared.telling.Ran.TheVariants as ran
use Rattle.jasminc_selfrun.specs.declared.summing.Origin.{Origin}
use Rattle.jasminc_selfrun.specs.Summary.{summary_text}

-- the run from a start ends within so many steps, and this is its summary
pub record SumsUp (o : Origin) (c : Compiled) (start : Config) (fuel : ℕ) (output : List ℕ)
    : Type 0 where
  pub steps : ℕ
  pub within : steps ≤ fuel
  pub ends : EndsAfter c.code code_base start steps
  pub text : let ran = steps_of c.code code_base start steps in
      output ≡ summary_text o c ran.after.state ran.events steps

-- the run from a start has not ended after so many steps, and this says so, and nothing else
pub record SaysCut (c : Compiled) (start : Config) (fuel : ℕ) (output : List ℕ) : Type 0 where
  pub still : RunsStill c.code code_base start fuel
  pub text : output ≡ cut_line fuel

abbrev pub Tells : Origin → Compiled → Config → ℕ → Ran → Type 0
Tells o c start fuel (ran.Ended text) = SumsUp o c start fuel text
Tells o c start fuel (ran.Cut text) = SaysCut c start fuel text

-- what is told of the run of a function on items, with at most so many steps
pub record RunsTo (o : Origin) (c : Compiled) (f : Fun) (words : List ℕ) (items : List Item)
    (fuel : ℕ) (ran : Ran) : Type 0 where
  pub memory : Memory
  pub is_start : IsStartMemory c.frame f words items memory
  pub told : Tells o c (exec_start (words_of items) memory) fuel ran
