-- A function whose calls are copies of what they call, and its runs beside those of the function.
use Rattle.std.specs.Prelude.{ℕ, ◌≡◌, List}
use Rattle.jz_tree.specs.Memory.{Memory}
use Rattle.jz_tree.specs.declared.program.Fun.{Fun}
use Rattle.jz_tree.specs.declared.program.Program.{Program}
use Rattle.jz_runs.specs.RunLeaks.{Leak}
use Rattle.jz_runs.specs.Trees.{done}
use Rattle.jz_runs.specs.Rules.{Outcome, Goes}
use Rattle.jz_meaning.specs.declared.value.Stuck.{Stuck}
use Rattle.jz_meaning.specs.States.{Value, State}
use Rattle.jz_meaning.specs.Statements.{Block, source}
use Rattle.jz_meaning.specs.Runs.{Returned, FunOutcome, IsInput, IsRun, body_of, entry_state, outcome_of_body}
use Rattle.jz_change.specs.Changes.{Change}
use Rattle.jz_pass.specs.Copying.{inlined, inlining}
use Rattle.jz_pass.specs.Laws.{Runs, Relating, between_trees}
use Rattle.jz_inline.specs.Names.{Names}
use Rattle.jz_inline.specs.Calls.{inline_calls}

-- the function's own variables are the copy 0
abbrev pub own_names : Names
own_names n = (n, 0)

-- the copies have the numbers from 1 on, in the order of the text
abbrev pub inlined_body : Program → Fun → Block
inlined_body p f = inlined inline_calls own_names 1 (body_of p f) done

-- what becomes of a leak of the function
abbrev pub inlining_of : Program → Fun → Change
inlining_of p f = inlining inline_calls own_names 1 (body_of p f)

-- ---- runs

-- what a function is run on
pub record Given : Type 0 where
  pub words : List Value
  pub memory : Memory

-- a run with this body in place of the function's
pub record IsBodyRun (b : Block) (f : Fun) (given : Given) (n : ℕ) (o : FunOutcome) : Type 0 where
  pub out : Outcome State Stuck Leak
  pub goes : Goes source b n (entry_state f given.words given.memory) out
  pub gives : outcome_of_body f.result out ≡ o

abbrev pub runs_of : Program → Fun → Runs Given Returned Stuck
runs_of p f given n o = IsRun p f given.words given.memory n o

abbrev pub body_runs : Block → Fun → Runs Given Returned Stuck
body_runs b f given n o = IsBodyRun b f given n o

-- on the same input: the same words and memory at an end, and stuck at the same place for the same
-- reason
abbrev pub alike : Program → Fun → Relating Given Given Returned Returned Stuck Stuck
alike p f =
    between_trees (λ given other. (given ≡ other) × IsInput p f given.words)
    (λ returned other. returned ≡ other)
