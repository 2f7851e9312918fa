-- No run is stuck.
use Rattle.std.proofs.Common.{ℕ, List, refl}
use Rattle.std.specs.Prelude.{Contains}
use Rattle.jz_words.specs.Memory.{Memory}
use Rattle.jz_tree.specs.declared.program.Fun.{Fun}
use Rattle.jz_tree.specs.declared.program.Program.{Program}
use Rattle.jz_runs.specs.Rules.{Stuck}
use Rattle.jz_meaning.specs.declared.value.Stuck.{Stuck as Reason}
use Rattle.jz_meaning.specs.States.{Value}
use Rattle.jz_meaning.specs.Runs.{IsInput, IsRun}
use Rattle.jz_preconditions.specs.Meeting.{MeetsPreconditions}
use Rattle.jz_change.specs.Changes.{Change}
use Rattle.jz_pass.specs.Laws.{Follows, was_stuck}
use Rattle.jz_inline.specs.Functions.{Given, body_runs}
use Rattle.jz_function_runs.specs.FunctionRuns.{plain_body, alike_where}
use Rattle.jz_correct.specs.Registers.{argument_registers}
use Rattle.jz_compiled.specs.Matching.{values_of}
use Rattle.jz_joined.specs.Making.{IsAsked, IsExpandedTo}
use Rattle.jz_fact_entry.specs.Entry.{AreWords}
use Rattle.jz_never_stuck.specs.Safety.{IsFineFunction, HasNoAlarm, SharesHead}
use Rattle.jz_never_stuck.proofs.Words.{all_fit}
use Rattle.jz_never_stuck.proofs.Whole.{expanded_never}
use Rattle.jz_safe_functions.specs.SafeLaws.{SafeIsNeverStuck, SourceIsNeverStuck}
use Rattle.jz_safe_functions.proofs.Listed.{listed_words}

pub safe_never : SafeIsNeverStuck
safe_never p f g c has head fine none lines words memory n w meets run =
    expanded_never p f g (plain_body g) words (values_of c.args words) memory n run.out w has head fine none meets
    (listed_words argument_registers f.params c.args words lines meets.sizes) run.goes run.gives

module _ (p : Program) (f g : Fun) (k : Change) (words : List ℕ) (values : List Value) (memory : Memory) (n : ℕ) (w : Reason) (has : Contains p.funs f) (head : SharesHead f g) (e : IsExpandedTo p f g k)
    (fine : IsFineFunction (plain_body g) g) (none : HasNoAlarm (plain_body g) g) (meets : MeetsPreconditions f words memory) (are : AreWords f.params words values) where
  abbrev given : Given
  given = record { words = values; memory = memory }

  input : IsInput p f values
  input = record { of_program = has; arguments = all_fit f.params words values are }

  stuck_never : (v : Reason) → body_runs (plain_body g) g given n (Stuck v) → ⊥
  stuck_never v run = expanded_never p f g (plain_body g) words values memory n run.out v has head fine none meets are run.goes run.gives

  by_follows : Follows (alike_where (IsAsked p f)) k (body_runs (plain_body g) g given n) (Stuck w) → ⊥
  by_follows (was_stuck h) = let t = h tt in stuck_never t.0 t.2

  run_never : IsRun p f values memory n (Stuck w) → ⊥
  run_never run = by_follows (e.carries.forth given given n (Stuck w) (refl, (input, meets.bytes)) run)

pub source_never : SourceIsNeverStuck
source_never p f g k words values memory n w has head e fine none meets are run = run_never p f g k words values memory n w has head e fine none meets are run
