-- What the bytes of a compiled function owe to the runs of its source.
use Rattle.std.specs.Prelude.{◌≡◌, ◌≤◌, ℕ, ◌+◌, List, [], ◌∷◌, false}
use Rattle.jz_words.specs.Memory.{Memory}
use Rattle.jz_tree.specs.declared.program.Fun.{Fun}
use Rattle.jz_tree.specs.declared.program.Program.{Program}
use Rattle.jz_leak.specs.RunLeaks.{Leak}
use Rattle.jz_leak.specs.Applying.{apply_of, Fits}
use Rattle.jz_runs.specs.Rules.{End, Cut, Stuck}
use Rattle.jz_meaning.specs.States.{Value, word}
use Rattle.jz_meaning.specs.Runs.{Returned, FunOutcome, IsRun}
use Rattle.jz_preconditions.specs.Meeting.{MeetsPreconditions}
use Rattle.jz_listing.specs.declared.compiled.Arg.{Arg}
use Rattle.jz_listing.specs.declared.compiled.Compiled.{Compiled}
use Rattle.x64_machine.specs.Steps.{Config, steps_of}
use Rattle.jz_correct.specs.Starts.{IsStart}
use Rattle.jz_correct.specs.Agreement.{NeverFaults, EndsWith, step_bound}

-- the values of words, by the sizes of the lines
abbrev pub values_of : List Arg → List ℕ → List Value
values_of [] words = []
values_of (a ∷ args) [] = []
values_of (a ∷ args) (w ∷ words) = word a.size w ∷ values_of args words

-- The source ends within n turns: the bytes end within the bound, with its results and memory, and
-- show the transformer applied to what it leaked.
pub record MatchesEnd (c : Compiled) (words : List ℕ) (rsp0 base : ℕ) (s : Config) (n : ℕ)
    (r : Returned) (l : Leak) : Type 0 where
  pub fits : Fits c.tr l
  pub steps : ℕ
  pub within : steps ≤ step_bound c n
  pub results : List ℕ
  pub given : r.words ≡ values_of c.rets results
  pub ends : EndsWith c words rsp0 base s steps results r.memory (apply_of c.tr l rsp0)

-- The source wants one turn more: the bytes are running after n steps, never fault, and what they
-- show after some number of steps, at most as many short of n as the code has instructions, is the
-- transformer applied to what the source leaked up to there.
pub record MatchesCut (c : Compiled) (rsp0 base : ℕ) (s : Config) (n : ℕ) (l : Leak) : Type 0 where
  pub fits : Fits c.tr l
  pub running : (steps_of c.code base s n).after.ended ≡ false
  pub steps : ℕ
  pub enough : n ≤ steps + c.insns
  pub within : steps ≤ step_bound c n
  pub running_there : (steps_of c.code base s steps).after.ended ≡ false
  pub shown : (steps_of c.code base s steps).events ≡ apply_of c.tr l rsp0
  pub no_fault : NeverFaults c.code base s

-- what an outcome of the source at n asks of the bytes; the source is never stuck
abbrev pub Matches : Compiled → List ℕ → ℕ → ℕ → Config → ℕ → FunOutcome → Type 0
Matches c words rsp0 base s n (End r m l) = MatchesEnd c words rsp0 base s n r l
Matches c words rsp0 base s n (Cut l) = MatchesCut c rsp0 base s n l
Matches c words rsp0 base s n (Stuck w) = ⊥

-- An input that meets the preconditions has a run of the source, with each number of turns; and
-- each of its runs is matched from every start of the bytes on that input.
pub record CarriesOver (p : Program) (f : Fun) (c : Compiled) : Type 0 where
  pub runs :
      (words : List ℕ) (memory : Memory) (n : ℕ) → MeetsPreconditions f words memory
      → (o : FunOutcome) × IsRun p f (values_of c.args words) memory n o
  pub matches :
      (words : List ℕ) (memory : Memory) (n : ℕ) (o : FunOutcome)
      → MeetsPreconditions f words memory → IsRun p f (values_of c.args words) memory n o
      → (rsp0 base : ℕ) (s : Config) → IsStart c words memory rsp0 base s
      → Matches c words rsp0 base s n o
