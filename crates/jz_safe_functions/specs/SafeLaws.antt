-- An export function whose expansion has no alarm is never stuck: as compiling asks it of the
-- expansion, and as it stands in the text.
use Rattle.std.specs.Prelude.{ℕ, List, Contains}
use Rattle.jz_words.specs.Memory.{Memory}
use Rattle.jz_tree.specs.declared.program.Fun.{Fun}
use Rattle.jz_tree.specs.declared.program.Program.{Program}
use Rattle.jz_runs.specs.Rules.{Stuck}
use Rattle.jz_meaning.specs.declared.value.Stuck.{Stuck as Reason}
use Rattle.jz_meaning.specs.States.{Value}
use Rattle.jz_meaning.specs.Runs.{IsRun}
use Rattle.jz_preconditions.specs.Meeting.{MeetsPreconditions}
use Rattle.jz_change.specs.Changes.{Change}
use Rattle.jz_function_runs.specs.FunctionRuns.{plain_body}
use Rattle.jz_listing.specs.declared.compiled.Compiled.{Compiled}
use Rattle.jz_correct.specs.Registers.{argument_registers}
use Rattle.jz_compiled.specs.Lines.{AreArgumentLines}
use Rattle.jz_joined.specs.Making.{IsNeverStuck, IsExpandedTo}
use Rattle.jz_fact_entry.specs.Entry.{AreWords}
use Rattle.jz_never_stuck.specs.Safety.{IsFineFunction, HasNoAlarm, SharesHead}

-- on the words of the lines of a compiled function
abbrev pub SafeIsNeverStuck : Type 0
SafeIsNeverStuck =
    (p : Program) (f g : Fun) (c : Compiled)
    → Contains p.funs f → SharesHead f g → IsFineFunction (plain_body g) g
    → HasNoAlarm (plain_body g) g
    → AreArgumentLines argument_registers f.params c.args → IsNeverStuck f g c

-- nor is the function of the text
abbrev pub SourceIsNeverStuck : Type 0
SourceIsNeverStuck =
    (p : Program) (f g : Fun) (k : Change) (words : List ℕ) (values : List Value)
    (memory : Memory) (n : ℕ) (w : Reason)
    → Contains p.funs f → SharesHead f g → IsExpandedTo p f g k
    → IsFineFunction (plain_body g) g
    → HasNoAlarm (plain_body g) g
    → MeetsPreconditions f words memory → AreWords f.params words values
    → IsRun p f values memory n (Stuck w) → ⊥
